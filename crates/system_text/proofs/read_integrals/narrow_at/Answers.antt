use Rattle.std.proofs.Common.{◌≡◌, ℤ, List, true, false, sym, ◌∙◌, subst}
use Rattle.std.specs.Prelude.{◌≤ℤ◌}
use Rattle.std.specs.List.{All}
use Rattle.family.specs.declared.limits.TheConstants.{LEAST_POWER, GREATEST_POWER}
use Rattle.line_reader.proofs.Words.{not_none, some_holds}
use Rattle.system_text.proofs.Cuts.{narrow_is, all_narrow}
use Rattle.system_text.proofs.read_integrals.narrow_at.Goals as goal

pub returns-then-are_narrow-clause-reads : goal.returns-then-are_narrow-clause-reads
returns-then-are_narrow-clause-reads c powers rest is e =
    some_holds c.in-Ok-Some.field-0 _ (c.in-Ok-Some.integral, c.in-Ok-Some.rest) (c.in-Ok-Some.ensures.reads powers rest (narrow_is c.args.n powers is) e) c.in-Ok-Some.field-0-is

pub returns-else-are_narrow-clause-reads : goal.returns-else-are_narrow-clause-reads
returns-else-are_narrow-clause-reads c powers rest is e =
    let read = some_holds c.in-Ok-Some.field-0 _ (c.in-Ok-Some.integral, c.in-Ok-Some.rest) (c.in-Ok-Some.ensures.reads powers rest (narrow_is c.args.n powers is) e) c.in-Ok-Some.field-0-is in
    let yes : c.are_narrow.result ≡ true = c.are_narrow.ensures.1
    (subst (λ (zs : List ℤ). All (λ power. (LEAST_POWER ≤ℤ power) × (power ≤ℤ GREATEST_POWER)) zs) (sym (c.powers.ensures.value ∙ read.0)) (all_narrow c.args.n powers is)) in
    let no : c.are_narrow.result ≡ false = c.if-are_narrow.false in
    let wrong : true ≡ false = sym yes ∙ no in
    absurd (cc)

pub returns-in-Ok-None-clause-reads : goal.returns-in-Ok-None-clause-reads
returns-in-Ok-None-clause-reads c powers rest is e =
    not_none c.in-Ok-None.field-0 _ (c.in-Ok-None.ensures.reads powers rest (narrow_is c.args.n powers is) e) c.in-Ok-None.field-0-is
