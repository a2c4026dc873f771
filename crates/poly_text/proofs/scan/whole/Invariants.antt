use Rattle.std.proofs.Common.{◌≡◌, ◌<◌, ◌^◌, drop}
use Rattle.std.specs.Prelude.{fold}
use Rattle.poly_text.specs.Token.{whole_value}
use Rattle.poly_text.proofs.Scanning.{digit_step}
use Rattle.poly_text.proofs.scan.whole.Given as goal

abbrev pub invariant-loop-digit : goal.invariant-loop-digit
invariant-loop-digit l = record {
  below : l.number < 2 ^ 128;
  told : fold digit_step l.number (drop l.digit-index l.digits) ≡ whole_value l.digits;
}
