use Rattle.std.proofs.Common.{sym}
use Rattle.std.proofs.lemmas.Nat.Bits.{bit_at_above}
use Rattle.symmetry_fold.proofs.images.digit_at.Goals as goal

pub returns-else-place-lt16-clause-value : goal.returns-else-place-lt16-clause-value
returns-else-place-lt16-clause-value c = sym (bit_at_above c.args.sector 16 c.args.place c.ranges.sector.fits c.if-place-lt16.false)
