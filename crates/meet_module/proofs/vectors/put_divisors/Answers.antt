use Rattle.std.proofs.Common.{◌≡◌, ◌+◌, ◌-◌, arith, ◌∙◌}
use Rattle.meet_module.proofs.VectorLists.{divisors_more, divisors_whole}
use Rattle.meet_module.proofs.vectors.put_divisors.Goals as goal

pub loop-place-preserved : goal.loop-place-preserved
loop-place-preserved c =
    let place = c.loop-place.place in
    divisors_more c.args.n c.args.sector.0 place (place + 1) (place + 1 - 1) c.divisor-divisor.result c.loop-place.vectors.items c.push.new.self.items c.args.vectors.now.items c.in_ok-raised_unit.field-0
    c.loop-place-test.true (omega arith) (omega arith) c.divisor-divisor.ensures.value c.in_ok-raised_unit.ensures c.in_ok-push.ensures.items c.loop-place.invariant

pub returns : goal.returns
returns c =
    let place = c.loop-place.place in
    let ended : place ≡ c.args.n = omega (arith, c.loop-place-test.false, c.loop-place.auto.place-end) in
    divisors_whole c.args.n c.args.sector.0 place (c.args.n + 1) c.one.result c.loop-place.vectors.items c.push-2.new.self.items c.args.vectors.now.items c.in_ok-raised_unit-2.field-0 ended (omega arith) c.one.ensures
    c.in_ok-raised_unit-2.ensures c.in_ok-push-2.ensures.items c.loop-place.invariant
