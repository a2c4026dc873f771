use Rattle.std.proofs.Common.{◌≡◌, ◌-◌, ◌<◌, ℕ, List, [], ◌∷◌, Ok, Err, set, replicate, subst, arith}
use Rattle.std.specs.Prelude.{IfOk}
use Rattle.ibp_algebra.specs.Exponents.{deg_rev_lex}
use Rattle.ibp_algebra.specs.Field.{variable}
use Rattle.ibp_algebra.specs.FormalSum.{IsCanonical}
use Rattle.ibp_algebra.specs.Polynomial.{SamePolynomial, multiply}
use Rattle.mono_order.specs.declared.limits.TheConstants.{RUN_DEGREE, VARIABLES}
use Rattle.ibp_algebra.proofs.Degrees.{degree_within}
use Rattle.ibp_relation.proofs.UnstrippedForms.{product_by_variable, variable_degree}
use Rattle.ibp_relation.proofs.unstripping.times_variable.Goals as goal

pub product-requires : goal.product-requires
product-requires c =
    let place = c.args.i - 1 in
    let factor = c.in_ok-factor.factor in
    let within : place < VARIABLES = omega (arith, c.requires.place) in
    let same : SamePolynomial factor ((set (replicate VARIABLES 0) place 1, 1) ∷ []) =
    subst (λ (m : List ℕ). SamePolynomial factor ((m, 1) ∷ [])) c.variable.ensures
    (subst (λ n. SamePolynomial factor ((c.variable.result, n) ∷ [])) c.one.ensures c.in_ok-factor.ensures.sum)
    in
    omega (arith, variable_degree place factor within c.in_ok-factor.ensures.canonical same, degree_within RUN_DEGREE c.args.poly.now c.requires.degree)

pub returns : goal.returns
returns c =
    let place = c.args.i - 1 in
    let factor = c.in_ok-factor.factor in
    let within : place < VARIABLES = omega (arith, c.requires.place) in
    let same : SamePolynomial factor ((set (replicate VARIABLES 0) place 1, 1) ∷ []) =
    subst (λ (m : List ℕ). SamePolynomial factor ((m, 1) ∷ [])) c.variable.ensures
    (subst (λ n. SamePolynomial factor ((c.variable.result, n) ∷ [])) c.one.ensures c.in_ok-factor.ensures.sum)
    in
    elim c.product.result as (λ r. IfOk r (IsCanonical deg_rev_lex) → IfOk r (λ p. SamePolynomial p (multiply factor c.args.poly.now)) → IfOk r (λ p. p ≡ multiply (variable place) c.args.poly.now)) [
      | Ok moved ↦ λ canonical product. product_by_variable place factor moved c.args.poly.now within same c.requires.each_variable c.requires.degree c.requires.canonical canonical product
      | Err fault ↦ λ canonical product. tt
    ] c.product.ensures.canonical c.product.ensures.product
