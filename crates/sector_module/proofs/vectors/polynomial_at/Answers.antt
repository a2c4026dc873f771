use Rattle.std.proofs.Common.{◌≡◌, ◌≤◌, sum, subst}
use Rattle.ibp_algebra.specs.Polynomial.{SamePolynomial}
use Rattle.mono_order.specs.declared.limits.TheConstants.{RUN_DEGREE}
use Rattle.ibp_algebra.proofs.Degrees.{AllKeys-same}
use Rattle.sector_module.proofs.vectors.polynomial_at.Goals as goal

pub returns : goal.returns
returns g c =
    let p = c.in_ok-polynomial.polynomial in
    let is : c.as_slice.result.now ≡ c.in_ok-terms.terms = c.as_slice.ensures in
    let same : SamePolynomial p c.in_ok-terms.terms = subst (SamePolynomial p) is c.in_ok-polynomial.ensures.sum in
    record {
      same = subst (SamePolynomial p) c.in_ok-terms.ensures.terms same;
      canonical = c.in_ok-polynomial.ensures.canonical;
      within = AllKeys-same (λ m. sum m ≤ RUN_DEGREE) p c.in_ok-terms.terms c.in_ok-polynomial.ensures.canonical same c.in_ok-terms.ensures.bounded;
    }
