use Rattle.std.proofs.Common.{◌+◌, ◌≡◌, ◌-◌, ◌<◌, ◌≤◌, Ok, Err, length, sum, true, sym, ◌∙◌, arith}
use Rattle.std.specs.Prelude.{IfOk}
use Rattle.std.proofs.lemmas.Result.{IfOk-weaker}
use Rattle.ibp_algebra.specs.Exponents.{deg_rev_lex}
use Rattle.ibp_algebra.specs.FormalSum.{AllKeys, IsCanonical}
use Rattle.ibp_algebra.specs.Polynomial.{SamePolynomial, derivative, multiply}
use Rattle.ibp_algebra.specs.Field.{variable}
use Rattle.ibp_algebra.proofs.Combinations.{AllKeys-weaker}
use Rattle.family.specs.Shapes.{HasVariables}
use Rattle.family.specs.Conditions.{in_sector}
use Rattle.ibp_algebra.proofs.Degrees.{degree_within}
use Rattle.sparse_poly.specs.declared.limits.TheConstants.{DEGREE_LIMIT}
use Rattle.mono_order.specs.declared.limits.TheConstants.{VARIABLES}
use Rattle.sector_module.proofs.FactorLaws.{code_variable, code_variable_is, times_variable, variable_degree, derived_degrees, product_degrees, degrees_more, of_sector}
use Rattle.sector_module.proofs.factors.factor.Goals as goal

pub product-requires : goal.product-requires
product-requires c =
    let j = c.args.i - 1 in
    let family = c.args.family.now in
    let below : j < VARIABLES = omega (arith, c.requires, family.limits.few_variables) in
    let made : SamePolynomial c.in_ok-variable.variable (code_variable j) =
    code_variable_is j c.one.result c.variable.result c.in_ok-variable.variable c.in_ok-variable.ensures.sum c.variable.ensures c.one.ensures
    in
    let first = variable_degree j c.in_ok-variable.variable below c.in_ok-variable.ensures.canonical made in
    let second = degree_within DEGREE_LIMIT c.in_ok-derivative.derivative
    (derived_degrees DEGREE_LIMIT j c.in_ok-derivative.derivative family.baikov c.in_ok-derivative.ensures.canonical c.in_ok-derivative.ensures.derivative family.limits.polynomial.degree_within)
    in
    omega (arith, first, second)

pub returns-then-not-is_inside-clause-degrees : goal.returns-then-not-is_inside-clause-degrees
returns-then-not-is_inside-clause-degrees c =
    let family = c.args.family.now in
    degrees_more DEGREE_LIMIT (DEGREE_LIMIT + 1) c.in_ok-derivative.derivative (omega arith)
    (derived_degrees DEGREE_LIMIT (c.args.i - 1) c.in_ok-derivative.derivative family.baikov c.in_ok-derivative.ensures.canonical c.in_ok-derivative.ensures.derivative family.limits.polynomial.degree_within)

raised : (c : goal.After-drop-derivative-inside-2) → IfOk c.product.result (λ f. SamePolynomial f (multiply (variable (c.args.i - 1)) (derivative (c.args.i - 1) c.args.family.now.baikov)))
raised c =
    let j = c.args.i - 1 in
    let family = c.args.family.now in
    let below : j < VARIABLES = omega (arith, c.requires, family.limits.few_variables) in
    let made : SamePolynomial c.in_ok-variable.variable (code_variable j) =
    code_variable_is j c.one.result c.variable.result c.in_ok-variable.variable c.in_ok-variable.ensures.sum c.variable.ensures c.one.ensures
    in
    IfOk-weaker c.product.result _ _
    (λ f product.
    times_variable j family.baikov c.in_ok-variable.variable c.in_ok-derivative.derivative f below
    (AllKeys-weaker (HasVariables family.n) (λ m. length m ≡ VARIABLES) (λ m h. h.each_variable) family.baikov family.limits.polynomial.variables) made c.in_ok-derivative.ensures.derivative product)
    c.product.ensures.product

pub returns-clause-factor : goal.returns-clause-factor
returns-clause-factor c =
    let inside : in_sector c.args.sector.0 (c.args.i - 1) ≡ true = sym c.is_inside.ensures ∙ c.if-not-is_inside.false in
    IfOk-weaker c.product.result _ _ (λ f h. of_sector (in_sector c.args.sector.0 (c.args.i - 1)) f _ _ inside h) (raised c)

pub returns-clause-degrees : goal.returns-clause-degrees
returns-clause-degrees c =
    let j = c.args.i - 1 in
    let p = c.args.family.now.baikov in
    let limits = c.args.family.now.limits in
    elim c.product.result as (λ r. IfOk r (IsCanonical deg_rev_lex) → IfOk r (λ f. SamePolynomial f (multiply (variable j) (derivative j p))) → IfOk r (λ f. AllKeys (λ m. sum m ≤ DEGREE_LIMIT + 1) f)) [
      | Ok f ↦ λ canonical same. product_degrees DEGREE_LIMIT j f p canonical same limits.polynomial.degree_within
      | Err fault ↦ λ canonical same. tt
    ] c.product.ensures.canonical (raised c)
