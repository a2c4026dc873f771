use Rattle.std.proofs.Common.{arith, ◌≡◌, ◌-◌, ℕ, List, length, drop, take, sym, ap, ◌∙◌}
use Rattle.std.specs.Prelude.{Option}
use Rattle.std.proofs.lemmas.List.{take_all, length-drop}
use Rattle.poly_text.specs.Token.{whole_value}
use Rattle.poly_text.specs.Symbols.{limited}
use Rattle.poly_text.proofs.Scanning.{variable_positive, variable_zero, variable_over, variable_wide, variable_found, limited_is}
use Rattle.poly_text.proofs.scan.named_variable.Goals as goal

-- what the digits behind the first byte spell
spelled : (word : List ℕ) (read : Option ℕ) → read ≡ limited (whole_value (take (length word - 1) (drop 1 word))) → read ≡ limited (whole_value (drop 1 word))
spelled word read is = is ∙ ap (λ (digits : List ℕ). limited (whole_value digits)) (take_all (length word - 1) (drop 1 word) (omega (arith, length-drop 1 word)))

pub variable-requires : goal.variable-requires
variable-requires c =
    let value = limited_is (whole_value (drop 1 c.args.word.now)) c.in_ok-i.i (sym c.in_ok-i.was ∙ spelled c.args.word.now c.whole.result c.whole.ensures) in
    (omega (arith, variable_positive c.args.word.now c.requires.form c.if-word-eq48.false), omega arith)

pub returns-then-word-eq48 : goal.returns-then-word-eq48
returns-then-word-eq48 c = variable_zero c.args.n c.args.word.now c.if-word-eq48.true

pub returns-then-i-n : goal.returns-then-i-n
returns-then-i-n c =
    let value = limited_is (whole_value (drop 1 c.args.word.now)) c.in_ok-i.i (sym c.in_ok-i.was ∙ spelled c.args.word.now c.whole.result c.whole.ensures) in
    variable_over c.args.n c.args.word.now (omega arith)

pub returns-in_err-i : goal.returns-in_err-i
returns-in_err-i c = c.from_residual.ensures ∙ variable_wide c.args.n c.args.word.now c.whole.result c.requires.few c.in_err-i.was (spelled c.args.word.now c.whole.result c.whole.ensures)

pub returns : goal.returns
returns c =
    variable_found c.args.n c.in_ok-i.i c.args.word.now c.variable.result c.whole.result c.requires.form c.if-word-eq48.false c.in_ok-i.was
    (spelled c.args.word.now c.whole.result c.whole.ensures) (omega arith) c.variable.ensures
