use Rattle.std.proofs.Common.{◌≡◌, ◌<◌, ◌^◌, drop}
use Rattle.std.specs.Prelude.{fold}
use Rattle.line_reader.specs.Fronts.{whole_value, digit_step}
use Rattle.line_reader.proofs.numbers.whole.Given as goal

abbrev pub invariant-loop-digit : goal.invariant-loop-digit
invariant-loop-digit l = record {
  below : l.number < 2 ^ 32;
  told : fold digit_step l.number (drop l.digit-index l.digits) ≡ whole_value l.digits;
}
