use Rattle.std.proofs.Common.{◌≡◌, ◌+◌, ◌-◌, ◌<◌, ◌≤◌, ◌^◌, length, take, ◌/◌, refl, sym, ◌∙◌, subst, arith}
use Rattle.std.specs.Prelude.{ℤ, neg_ℤ, ◌≤ℤ◌, slice_set}
use Rattle.std.proofs.Common.{to_z, of_z, w16}
use Rattle.std.proofs.lemmas.Int.{ints}
use Rattle.std.proofs.lemmas.Result.{on_ok_weaker}
use Rattle.sector_lattice.specs.Ranges.{AreSmall}
use Rattle.std.proofs.lemmas.List.{length-set}
use Rattle.sector_lattice.specs.declared.integral.TheConstants.{POWER}
use Rattle.sector_lattice.specs.Layers.{layer}
use Rattle.sector_lattice.proofs.Filling.{half_of, stuck, nowhere, complete, behind_joined_none, small_more, prefix_kept, piece_more, pieces_all}
use Rattle.sector_lattice.proofs.seeding.+add_layer.Goals as goal

pub returns-then-place-powers-clause-listed : goal.returns-then-place-powers-clause-listed
returns-then-place-powers-clause-listed t c =
    on_ok_weaker c.add_complete.result (complete c.args.powers.now c.args.place c.args.sector c.args.dots c.args.rank c.args.found.now.items c.add_complete.new.found.items c.if-place-powers.true) c.add_complete.ensures

pub loop-spent-init : goal.loop-spent-init
loop-spent-init t c = (refl, behind_joined_none _ _ _)

pub add_layer-requires : goal.add_layer-requires
add_layer-requires t c =
    let p : ℤ = to_z w16 (of_z w16 c.power_spending.result) in
    let same : p ≡ c.power_spending.result = omega (arith, ints, c.power_spending.ensures.least, c.power_spending.ensures.greatest) in
    let inside : c.args.place < length c.loop-spent.powers = omega arith in
    let long : length (slice_set c.loop-spent.powers c.args.place p) ≡ length c.loop-spent.powers = length-set c.loop-spent.powers c.args.place p in
    let fewer : c.dots_after-dots_after.result ≤ c.args.dots = c.dots_after-dots_after.ensures.fewer in
    let less : c.rank_after-rank_after.result ≤ c.args.rank = c.rank_after-rank_after.ensures.less in
    let least : neg_ℤ POWER ≤ℤ p = omega (arith, ints, c.power_spending.ensures.least) in
    let greatest : p ≤ℤ POWER = omega (arith, ints, c.power_spending.ensures.greatest) in
    let small : AreSmall (take c.args.place c.loop-spent.powers) = subst AreSmall (sym c.loop-spent.invariant.0) c.requires.small in
    let half : c.args.sector / 2 < 2 ^ (length (slice_set c.loop-spent.powers c.args.place p) - (c.args.place + 1)) = half_of c.args.sector (length c.args.powers.now - c.args.place) (length (slice_set c.loop-spent.powers c.args.place p) - (c.args.place + 1)) (omega arith) c.requires.below in
    (omega arith, (omega arith, (omega arith, (omega arith, (small_more c.loop-spent.powers c.args.place p inside small least greatest, (half, (omega arith, omega arith)))))))

pub loop-spent-preserved : goal.loop-spent-preserved
loop-spent-preserved t c =
    let p : ℤ = to_z w16 (of_z w16 c.power_spending.result) in
    let same : p ≡ c.power_spending.result = omega (arith, ints, c.power_spending.ensures.least, c.power_spending.ensures.greatest) in
    let inside : c.args.place < length c.loop-spent.powers = omega arith in (
      prefix_kept c.loop-spent.powers c.args.powers.now c.add_layer.new.powers c.args.place p c.loop-spent.invariant.0 c.in_ok-add_layer.ensures.kept,
      piece_more (length c.args.powers.now - (c.args.place + 1)) c.args.sector c.args.dots c.args.rank c.loop-spent.spent c.args.powers.now c.loop-spent.powers c.args.place p (c.args.sector / 2) c.dots_after-dots_after.result c.rank_after-rank_after.result c.args.found.now.items c.loop-spent.found.items c.add_layer.new.found.items
          inside c.loop-spent.auto.powers refl c.loop-spent.invariant.0 (same ∙ c.power_spending.ensures.value) refl c.dots_after-dots_after.ensures.value c.rank_after-rank_after.ensures.value c.loop-spent.invariant.1 c.in_ok-add_layer.ensures.listed,
    )

pub returns-clause-listed : goal.returns-clause-listed
returns-clause-listed t c = pieces_all c.args.sector c.args.dots c.args.rank c.loop-spent.spent c.available-spent-end.result c.args.powers.now c.args.place c.args.found.now.items c.loop-spent.found.items c.requires.within c.if-place-powers.false c.available-spent-end.ensures.value c.loop-spent-test.false c.loop-spent.auto.spent-end c.loop-spent.invariant.1

pub returns-then-is_stuck-clause-listed : goal.returns-then-is_stuck-clause-listed
returns-then-is_stuck-clause-listed t c =
    stuck (take c.args.place c.args.powers.now) (layer (length c.args.powers.now - c.args.place) c.args.sector c.args.dots c.args.rank) c.args.found.now.items
    (nowhere (length c.args.powers.now - c.args.place) c.args.sector c.args.dots c.args.rank c.requires.below (c.is_stuck.ensures.0 c.if-is_stuck.true))
