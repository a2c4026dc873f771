use Rattle.std.proofs.Common.{◌≡◌, ◌<◌, get_or, sym, ap, subst, ◌∙◌, arith}
use Rattle.std.specs.Prelude.{pos}
use Rattle.std.proofs.lemmas.Int.{ints}
use Rattle.ibp_algebra.specs.Identity.{negated}
use Rattle.ibp_algebra.proofs.SumOfExponents.{get_or-le-sum}
use Rattle.sector_lattice.specs.Ranges.{InRange}
use Rattle.ibp_relation.specs.Shifts.{powers_of}
use Rattle.ibp_relation.proofs.Powers.{written_step, written_whole, opposite_long, opposite_at, opposite_in_range}
use Rattle.ibp_relation.proofs.moves.opposite.Goals as goal

pub loop-place-preserved : goal.loop-place-preserved
loop-place-preserved c =
    let n = c.args.n in
    let m = c.args.monomial.now in
    let i = c.loop-place.place in
    let below : i < n = omega arith in
    let exponent : get_or c.exponents-exponents.result i 0 ≡ get_or m i 0 = ap (λ l. get_or l i 0) c.exponents-exponents.ensures.value in
    let small = get_or-le-sum m i in
    let degree = c.exponents-exponents.ensures.kept.bounded in
    let at = opposite_at n m i below in
    written_step (negated (powers_of n m)) c.loop-place.powers i _ (pos 0) (omega (arith, opposite_long n m, c.requires.few)) (omega (arith, opposite_long n m)) (omega (arith, ints)) c.loop-place.invariant

pub in_range-requires : goal.in_range-requires
in_range-requires c =
    let n = c.args.n in
    let m = c.args.monomial.now in
    let whole = written_whole (negated (powers_of n m)) c.loop-place.powers c.loop-place.place c.from.result (omega (arith, opposite_long n m)) (omega (arith, opposite_long n m)) (omega (arith, opposite_long n m)) c.loop-place.invariant in
    subst InRange (sym whole) (opposite_in_range n m c.requires.some c.requires.few c.exponents-exponents.ensures.kept.bounded)

pub returns : goal.returns
returns c =
    let n = c.args.n in
    let m = c.args.monomial.now in
    c.in_range.ensures
    ∙ written_whole (negated (powers_of n m)) c.loop-place.powers c.loop-place.place c.from.result (omega (arith, opposite_long n m)) (omega (arith, opposite_long n m)) (omega (arith, opposite_long n m)) c.loop-place.invariant
