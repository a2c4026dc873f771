use Rattle.std.proofs.Common.{◌+◌, ◌-◌, List, arith, sym, subst}
use Rattle.std.specs.List.{All}
use Rattle.std.specs.Bool.{Decides}
use Rattle.ibp_algebra.specs.Field.{IsInModule}
use Rattle.std.proofs.lemmas.Bool.Decides.{Decides-at}
use Rattle.ibp_algebra.specs.FormalSum.{IsCanonical}
use Rattle.ibp_algebra.specs.Exponents.{deg_rev_lex}
use Rattle.ibp_algebra.specs.Polynomial.{Polynomial}
use Rattle.sparse_poly.specs.Equality.{one_polynomial-Decides}
use Rattle.family.specs.Shapes.{IsPolynomial}
use Rattle.family.specs.Conditions.{in_sector}
use Rattle.ibp_algebra.proofs.Degrees.{degree_within}
use Rattle.sparse_poly.specs.declared.limits.TheConstants.{DEGREE_LIMIT}
use Rattle.mono_order.specs.declared.limits.TheConstants.{RUN_DEGREE}
use Rattle.sector_module.proofs.MemberSums.{combination_step, Decides-member}
use Rattle.sector_module.proofs.membership.is_member.Goals as goal

pub product-requires : goal.product-requires
product-requires c =
    let family = c.args.family.now in
    let polynomials = subst (λ (l : List Polynomial). All (IsPolynomial family.n RUN_DEGREE) l) (sym c.as_slice-c.ensures) c.requires.shape.polynomials in
    let own : IsPolynomial family.n RUN_DEGREE c.index-c-i.result = subst (IsPolynomial family.n RUN_DEGREE) (sym c.index-c-i.is) (polynomials c.loop-i.i c.index-c-i.result c.loop-i-test.true) in
    let first = degree_within RUN_DEGREE c.index-c-i.result own.degree_within in
    let second = degree_within (DEGREE_LIMIT + 1) c.in_ok-factor.factor c.in_ok-factor.ensures.degrees in
    omega (arith, first, second)

pub product-requires-2 : goal.product-requires-2
product-requires-2 c =
    let family = c.args.family.now in
    omega (
      arith,
      degree_within RUN_DEGREE c.args.field.now.b c.requires.shape.factor.degree_within,
      degree_within DEGREE_LIMIT family.baikov family.limits.polynomial.degree_within,
    )

pub loop-i-preserved : goal.loop-i-preserved
loop-i-preserved c =
    combination_step c.as_slice-c.result.now (in_sector c.args.sector.0) c.args.family.now.baikov c.loop-i.sum c.in_ok-factor.factor c.in_ok-product.product c.in_ok-sum.sum c.index-c-i.result
    c.loop-i.i (c.loop-i.i + 1 - 1) c.loop-i-test.true c.index-c-i.is (omega arith) c.in_ok-factor.ensures.factor c.in_ok-product.ensures.product c.in_ok-sum.ensures.sum c.loop-i.invariant

pub returns : goal.returns
returns c =
    let family = c.args.family.now in
    let inside = in_sector c.args.sector.0 in
    subst (λ (l : List Polynomial). Decides c.eq-2.result (IsInModule family.baikov inside l c.args.field.now.b)) c.as_slice-c.ensures
    (Decides-member c.as_slice-c.result.now inside family.baikov c.args.field.now.b c.loop-i.sum c.in_ok-product-2.field-0 c.loop-i.i c.eq-2.result c.loop-i-test.false
    (subst (IsCanonical deg_rev_lex) c.sum-2.view_is c.sum-2.invariant) c.in_ok-product-2.ensures.canonical c.loop-i.invariant c.in_ok-product-2.ensures.product
    (Decides-at c.eq-2.result _ c.eq-2.ensures (one_polynomial-Decides c.loop-i.sum c.in_ok-product-2.field-0)))
