use Rattle.std.proofs.Common.{rules, ◌∙◌, ◌+◌, ◌-◌, ◌/◌, ◌≤◌, ◌++◌, length, take, drop, sum, subst, arith}
use Rattle.std.proofs.lemmas.Result.{IfOk-weaker}
use Rattle.ibp_algebra.specs.FormalSum.{AllKeys, scale}
use Rattle.ibp_algebra.specs.Polynomial.{Polynomial, SamePolynomial}
use Rattle.mono_order.specs.declared.limits.TheConstants.{MONO_DEGREE}
use Rattle.sparse_poly.proofs.Loops.{AllKeys-item, AllKeys-take, AllKeys-drop, halves, product_of_one, product_of_parts}
use Rattle.sparse_poly.proofs.terms.+product_by_halves.Goals as goal

pub shifted-requires-clause-fits : goal.shifted-requires-clause-fits
shifted-requires-clause-fits t c =
    AllKeys-item (λ m. AllKeys (λ k. sum m + sum k ≤ MONO_DEGREE) c.args.right.now) c.args.left.now 0 c.index-left-0.result c.requires.fits (omega arith) c.index-left-0.is

pub returns-then-left-eq1-clause-product : goal.returns-then-left-eq1-clause-product
returns-then-left-eq1-clause-product t c =
    IfOk-weaker c.plus_multiple.result _ _
    (λ v h. product_of_one c.args.left.now c.args.right.now c.deref.result.now v.items c.index-left-0.result c.index-left-0.result c.if-left-eq1.true c.index-left-0.is
    (c.deref.ensures.value ∙ c.in_ok-moved.ensures.moved) h)
    c.plus_multiple.ensures.sum

pub product_by_halves-requires : goal.product_by_halves-requires
product_by_halves-requires t c =
    (search rules, (c.requires.right, AllKeys-take (λ m. AllKeys (λ k. sum m + sum k ≤ MONO_DEGREE) c.args.right.now) c.args.left.now (length c.args.left.now / 2) c.requires.fits))

pub product_by_halves-requires-2 : goal.product_by_halves-requires-2
product_by_halves-requires-2 t c = (
  search rules,
  (
    c.requires.right,
    AllKeys-take (λ m. AllKeys (λ k. sum m + sum k ≤ MONO_DEGREE) c.args.right.now) (drop (length c.args.left.now / 2) c.args.left.now)
        (length c.args.left.now - length c.args.left.now / 2)
        (AllKeys-drop (λ m. AllKeys (λ k. sum m + sum k ≤ MONO_DEGREE) c.args.right.now) c.args.left.now (length c.args.left.now / 2) c.requires.fits),
  ),
)

pub returns-clause-product : goal.returns-clause-product
returns-clause-product t c =
    let middle = length c.args.left.now / 2 in
    IfOk-weaker c.plus_multiple-2.result _ _
    (λ v h. product_of_parts c.one.result c.args.left.now (take middle c.args.left.now) (take (length c.args.left.now - middle) (drop middle c.args.left.now)) c.args.right.now
    c.in_ok-first.first.items c.in_ok-second.second.items v.items c.one.ensures (halves c.args.left.now middle) c.in_ok-first.ensures.product c.in_ok-second.ensures.product
    (subst (λ (l : Polynomial). SamePolynomial v.items (l ++ scale c.one.result c.in_ok-second.second.items)) c.deref-2.ensures.value
    (subst (λ (l : Polynomial). SamePolynomial v.items (c.deref-2.result.now ++ scale c.one.result l)) c.deref-3.ensures.value h)))
    c.plus_multiple-2.ensures.sum
