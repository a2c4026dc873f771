use Rattle.std.proofs.Common.{◌≡◌, ap, subst, ◌∙◌}
use Rattle.ibp_algebra.specs.FormalSum.{map_keys}
use Rattle.ibp_algebra.specs.Polynomial.{SamePolynomial, Polynomial}
use Rattle.mono_order.specs.declared.limits.TheConstants.{VARIABLES}
use Rattle.family_file.proofs.PolynomialLimits.{sum_is}
use Rattle.cut_family.specs.Places.{filled}
use Rattle.cut_family.proofs.PlaceLaws.{from_empty}
use Rattle.cut_family.proofs.polynomials.lifted_polynomial.Goals as goal

pub returns : goal.returns
returns c =
    let moved : Polynomial → Polynomial = λ f. map_keys (filled 0 VARIABLES c.args.cut) f in
    let same : c.deref.result.now ≡ moved c.args.polynomial.now =
    c.deref.ensures.value ∙ from_empty c.new-terms.result.items (moved c.terms.result.now) c.put_lifted_terms.new.into.items c.new-terms.ensures.items c.in_ok-put_lifted_terms.ensures ∙ ap moved c.terms.ensures.same in
    sum_is c.in_ok-sum.sum (moved c.args.polynomial.now) c.in_ok-sum.ensures.canonical (subst (SamePolynomial c.in_ok-sum.sum) same c.in_ok-sum.ensures.sum)
