use Rattle.std.proofs.Common.{◌≡◌, ◌<◌, length, get_or, sym, ap, subst, ◌∙◌, arith}
use Rattle.std.specs.Prelude.{pos}
use Rattle.std.proofs.lemmas.Int.{ints}
use Rattle.ibp_algebra.specs.Laurent.{add_powers, power_at}
use Rattle.sector_lattice.specs.Ranges.{InRange}
use Rattle.ibp_relation.proofs.NoRise.{power_of_sum}
use Rattle.ibp_relation.proofs.Powers.{written_step, written_whole, moved_long, moved_in_range}
use Rattle.ibp_relation.proofs.moves.moved.Goals as goal

pub loop-place-preserved : goal.loop-place-preserved
loop-place-preserved c =
    let α = c.args.seed.now in
    let offset = c.args.offset.now in
    let i = c.loop-place.place in
    let count : length c.powers-power-items.result.now ≡ length α = ap length c.powers-power-items.ensures.value in
    let below : i < length α = omega arith in
    let also_below : i < length offset = omega (arith, c.requires.count) in
    let power : get_or c.powers-power-items.result.now i (pos 0) ≡ power_at α i = ap (λ k. get_or k i (pos 0)) c.powers-power-items.ensures.value in
    let added : get_or c.powers-offsets.result.now i (pos 0) ≡ power_at offset i = ap (λ k. get_or k i (pos 0)) c.powers-offsets.ensures.value in
    let range = c.powers-power-items.ensures.within.small i (pos 0) below in
    let least = range.0 in
    let most = range.1 in
    let offset_range = c.powers-offsets.ensures.within.small i (pos 0) also_below in
    let offset_least = offset_range.0 in
    let offset_most = offset_range.1 in
    let at = power_of_sum α offset i in
    let long = moved_long α offset c.requires.count in
    written_step (add_powers α offset) c.loop-place.powers i _ (pos 0) (omega (arith, long, c.powers-power-items.ensures.within.few)) (omega (arith, long)) (omega (arith, ints)) c.loop-place.invariant

pub in_range-requires : goal.in_range-requires
in_range-requires c =
    let α = c.args.seed.now in
    let offset = c.args.offset.now in
    let count : length c.powers-power-items.result.now ≡ length α = ap length c.powers-power-items.ensures.value in
    let long = moved_long α offset c.requires.count in
    let whole = written_whole (add_powers α offset) c.loop-place.powers c.loop-place.place c.from.result (omega (arith, long)) (omega (arith, long)) (omega (arith, long)) c.loop-place.invariant in
    subst InRange (sym whole) (moved_in_range α offset c.powers-power-items.ensures.within c.requires.seed c.requires.count c.requires.offset)

pub returns : goal.returns
returns c =
    let α = c.args.seed.now in
    let offset = c.args.offset.now in
    let count : length c.powers-power-items.result.now ≡ length α = ap length c.powers-power-items.ensures.value in
    let long = moved_long α offset c.requires.count in
    c.in_range.ensures
    ∙ written_whole (add_powers α offset) c.loop-place.powers c.loop-place.place c.from.result (omega (arith, long)) (omega (arith, long)) (omega (arith, long)) c.loop-place.invariant
