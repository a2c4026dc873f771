use Rattle.std.proofs.Common.{◌∙◌, ap}
use Rattle.ibp_algebra.specs.Exponents.{deg_rev_lex}
use Rattle.ibp_algebra.specs.FormalSum.{normal_form}
use Rattle.family_file.proofs.PolynomialLimits.{sum_is}
use Rattle.family_file.proofs.drill.box_polynomial.Goals as goal

pub returns : goal.returns
returns c =
    sum_is c.in_ok-polynomial.polynomial c.deref.result.now c.in_ok-polynomial.ensures.canonical c.in_ok-polynomial.ensures.sum
    ∙ ap (normal_form deg_rev_lex) (c.deref.ensures.value ∙ c.in_ok-terms.ensures)
