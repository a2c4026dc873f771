use Rattle.std.proofs.Common.{◌+◌, ◌-◌, arith, sym, subst}
use Rattle.ibp_algebra.specs.FormalSum.{IsCanonical}
use Rattle.ibp_algebra.specs.Exponents.{deg_rev_lex}
use Rattle.std.proofs.lemmas.Bool.Decides.{Decides-at}
use Rattle.sparse_poly.specs.Equality.{one_polynomial-Decides}
use Rattle.sparse_poly.specs.declared.limits.TheConstants.{DEGREE_LIMIT}
use Rattle.ibp_relation.specs.Shifts.{HasDegree}
use Rattle.ibp_relation.proofs.Degrees.{HasDegree-derivative}
use Rattle.ibp_algebra.proofs.Degrees.{degree_within}
use Rattle.ibp_relation.proofs.Tangents.{along_step, Decides-tangent}
use Rattle.ibp_relation.proofs.conditions.is_tangent.Goals as goal

pub product-requires : goal.product-requires
product-requires c =
    let i = c.loop-i.i in
    let derived = c.in_ok-derivative.derivative in
    let derived_degree = degree_within DEGREE_LIMIT derived (HasDegree-derivative DEGREE_LIMIT (i + 1 - 1) derived c.args.baikov.now c.in_ok-derivative.ensures.canonical c.in_ok-derivative.ensures.derivative c.requires.baikov) in
    let degree = degree_within DEGREE_LIMIT c.index-a-i.result (subst (HasDegree DEGREE_LIMIT) (sym c.index-a-i.is) (c.requires.degrees i c.index-a-i.result c.loop-i-test.true)) in
    omega (arith, derived_degree, degree)

pub product-requires-2 : goal.product-requires-2
product-requires-2 c =
    omega (arith, degree_within DEGREE_LIMIT c.args.b.now c.requires.degree, degree_within DEGREE_LIMIT c.args.baikov.now c.requires.baikov)

pub loop-i-preserved : goal.loop-i-preserved
loop-i-preserved c =
    let i = c.loop-i.i in
    along_step c.args.a.now c.args.baikov.now c.loop-i.sum c.in_ok-derivative.derivative c.in_ok-product.product c.in_ok-sum.sum c.index-a-i.result i (i + 1 - 1)
    c.loop-i-test.true c.index-a-i.is (omega arith) c.in_ok-derivative.ensures.derivative c.in_ok-product.ensures.product c.in_ok-sum.ensures.sum c.loop-i.invariant

pub returns : goal.returns
returns c =
    Decides-tangent c.args.a.now c.args.baikov.now c.loop-i.sum c.in_ok-product-2.field-0 _ c.loop-i.i c.eq-2.result c.loop-i-test.false
    (subst (IsCanonical deg_rev_lex) c.sum-2.view_is c.sum-2.invariant) (subst (IsCanonical deg_rev_lex) c.eq.view_is c.eq.invariant)
    c.loop-i.invariant c.in_ok-product-2.ensures.product
    (Decides-at c.eq-2.result _ c.eq-2.ensures (one_polynomial-Decides c.loop-i.sum c.in_ok-product-2.field-0))
