use Rattle.std.proofs.Common.{refl}
use Rattle.line_reader.proofs.Digits.{whole_stops, whole_end}
use Rattle.line_reader.proofs.numbers.whole.Goals as goal

pub returns-in_err-number : goal.returns-in_err-number
returns-in_err-number c =
    whole_stops c.loop-digit.number _ c.loop-digit.digit-index c.args.digits.now _ c.loop-digit-test.true refl c.from_residual.ensures c.in_err-number.ensures.value c.loop-digit.invariant.told

pub returns : goal.returns
returns c =
    whole_end c.loop-digit.number c.loop-digit.digit-index c.args.digits.now c.loop-digit-test.false c.loop-digit.invariant.below c.loop-digit.invariant.told
