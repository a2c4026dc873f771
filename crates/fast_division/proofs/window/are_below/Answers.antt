use Rattle.std.proofs.Common.{◌≡◌, ◌<◌, ◌≤◌, get_or, ap, ⊎_elim, arith}
use Rattle.std.proofs.lemmas.Bool.{cases_lt}
use Rattle.std.proofs.lemmas.List.{get_or_default}
use Rattle.fast_division.proofs.window.are_below.Goals as goal

pub loop-place-init : goal.loop-place-init
loop-place-init c = λ i d h. absurd (omega (arith, h))

pub loop-place-preserved : goal.loop-place-preserved
loop-place-preserved c =
    let index = c.loop-place.place-index in
    let places = c.args.places.now in
    λ i d h.
    ⊎_elim
    (λ (before : i < index). c.loop-place.invariant i d before)
    (λ (last : index ≤ i).
    omega (
      arith,
      c.if-place-bound.false,
      ap (λ k. get_or places k d) (let e : i ≡ index = omega (arith, h, last) in e),
      get_or_default places index d 0 c.loop-place-test.true,
    ))
    (cases_lt i index)

pub returns : goal.returns
returns c = λ i d h. c.loop-place.invariant i d (omega (arith, h, c.loop-place-test.false))
