use Rattle.std.proofs.lemmas.Result.{err_from_is_err_and}
use Rattle.poly_text.proofs.Steps.{number_fault, number_is, number_zero}
use Rattle.poly_text.proofs.parse.read_number.Goals as goal

pub returns-in_err-value : goal.returns-in_err-value
returns-in_err-value c =
    let p = err_from_is_err_and c.from_residual.result c.from_residual.ensures.1 in
    rw (p.1, p.2) (number_fault c.args.text.now c.empty-numbers.result c.empty-numbers.ensures _ c.in_err-value.ensures)

pub returns-in-Some : goal.returns-in-Some
returns-in-Some c =
    number_is c.args.text.now c.empty-numbers.result c.empty-numbers.ensures c.in_ok-value.value _ c.in-Some.term.now c.in_ok-value.ensures c.terms.ensures.same c.in-Some.ensures.value

pub returns : goal.returns
returns c =
    number_zero c.args.text.now c.empty-numbers.result c.empty-numbers.ensures c.in_ok-value.value _ c.zero.result c.in_ok-value.ensures c.terms.ensures.same c.in-None.ensures.value c.zero.ensures
