use Rattle.std.proofs.Common.{arith}
use Rattle.std.specs.Prelude.{pos, ◌<ℤ◌, ◌≤ℤ◌}
use Rattle.std.proofs.lemmas.Int.{ints}
use Rattle.ibp_relation.proofs.Divisions.{found_first, passed_divided, passed_outside}
use Rattle.ibp_relation.proofs.conditions.first_undivided.Goals as goal
use Rattle.ibp_relation.proofs.conditions.first_undivided.Goals.{else-is_inside-via-then-is_inside+else-not-divisible_by, else-is_inside-via-else-is_inside}

pub returns-then-not-divisible_by-clause-found : goal.returns-then-not-divisible_by-clause-found
returns-then-not-divisible_by-clause-found c =
    let positive : pos 0 <ℤ c.power-is_inside.result = omega (arith, ints) in
    found_first c.args.seed.now c.args.a.now c.loop-place.place c.index-a-place.result c.power-is_inside.result c.loop-place-test.true c.index-a-place.is
    c.power-is_inside.ensures.value positive (λ d. let clash : ⊥ = cc (c.divisible_by.ensures.1 d) in clash) c.loop-place.invariant

pub loop-place-preserved : goal.loop-place-preserved
loop-place-preserved c =
    elim c.else-is_inside.branch [
      | else-is_inside-via-then-is_inside+else-not-divisible_by w ↦
          passed_divided c.args.seed.now c.args.a.now c.loop-place.place c.index-a-place.result c.loop-place-test.true c.index-a-place.is
          (w.divisible_by.ensures.0 w.if-not-divisible_by.false) c.loop-place.invariant
      | else-is_inside-via-else-is_inside w ↦
          let outside : c.power-is_inside.result ≤ℤ pos 0 = omega (arith, ints) in
          passed_outside c.args.seed.now c.args.a.now c.loop-place.place c.power-is_inside.result c.power-is_inside.ensures.value outside c.loop-place.invariant
    ]
