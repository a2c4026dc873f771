use Rattle.std.proofs.Common.{◌≡◌, ◌≢◌, [], ◌+◌, true, false, sym, ◌∙◌}
use Rattle.std.proofs.lemmas.Result.{err_from_is_err_and}
use Rattle.line_reader.specs.declared.fault.ReadSystemFault.{ReadSystemFault}
use Rattle.system_text.proofs.Whole.{read_text, read_one, bad_fails, bad_rest, found_in, fails_in}
use Rattle.system_text.proofs.read_systems.read_system.Goals as goal

pub returns-in_err-system-clause-bad : goal.returns-in_err-system-clause-bad
returns-in_err-system-clause-bad c k e =
    let p = err_from_is_err_and c.from_residual.result c.from_residual.ensures.1 in
    let is = p.1 in
    let same : p.0 ≡ ReadSystemFault.BadLine k = cc in
    bad_fails c.args.n c.requires.few c.args.bytes.now k
    (fails_in c.args.n c.args.bytes.now c.of-from.result.rest.now c.of-from.result.taken _ (ReadSystemFault.BadLine k) c.of-from.ensures.rest c.of-from.ensures.none (sym p.2 ∙ same) c.in_err-system.ensures)

pub returns-then-is_empty-clause-text : goal.returns-then-is_empty-clause-text
returns-then-is_empty-clause-text c =
    read_text c.args.n c.requires.few c.args.bytes.now c.next_system.new.from.rest.now c.next_system.new.from.taken c.in_ok-system.system
    (found_in c.args.n c.args.bytes.now c.of-from.result.rest.now c.of-from.result.taken _ c.next_system.new.from.taken c.in_ok-system.system c.of-from.ensures.rest c.of-from.ensures.none c.in_ok-system.ensures)
    (c.is_empty.ensures.0 c.if-is_empty.true)

pub returns-then-is_empty-clause-one : goal.returns-then-is_empty-clause-one
returns-then-is_empty-clause-one c other is e =
    (read_one c.args.n c.requires.few c.args.bytes.now c.next_system.new.from.rest.now c.next_system.new.from.taken c.in_ok-system.system
    (found_in c.args.n c.args.bytes.now c.of-from.result.rest.now c.of-from.result.taken _ c.next_system.new.from.taken c.in_ok-system.system c.of-from.ensures.rest c.of-from.ensures.none c.in_ok-system.ensures)
    other is e).0

pub returns-else-is_empty-clause-bad : goal.returns-else-is_empty-clause-bad
returns-else-is_empty-clause-bad c k e =
    let bad = c.bad_next.ensures in
    let at : k ≡ c.next_system.new.from.taken + 1 = cc in
    let more : c.next_system.new.from.rest.now ≢ [] = λ none. let yes : c.is_empty.result ≡ true = c.is_empty.ensures.1 none in let no : c.is_empty.result ≡ false = c.if-is_empty.false in let wrong : true ≡ false = sym yes ∙ no in absurd (cc) in
    bad_rest c.args.n c.requires.few c.args.bytes.now c.next_system.new.from.rest.now c.next_system.new.from.taken k c.in_ok-system.system
    (found_in c.args.n c.args.bytes.now c.of-from.result.rest.now c.of-from.result.taken _ c.next_system.new.from.taken c.in_ok-system.system c.of-from.ensures.rest c.of-from.ensures.none c.in_ok-system.ensures)
    more at
