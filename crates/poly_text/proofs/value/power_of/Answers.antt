use Rattle.std.proofs.Common.{sym, ◌∙◌}
use Rattle.poly_text.proofs.Values.{power_stops}
use Rattle.poly_text.proofs.value.power_of.Goals as goal

pub returns-in-Err : goal.returns-in-Err
returns-in-Err c =
    power_stops c.args.at c.loop-done.done c.args.exponent c.args.f.now c.loop-done.power c.in-Err.fault c.loop-done-test.true c.loop-done.invariant (sym c.in-Err.is ∙ c.in_ok-product.ensures)
