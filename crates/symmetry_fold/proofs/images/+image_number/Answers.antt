use Rattle.std.proofs.Common.{arith}
use Rattle.symmetry_fold.proofs.ImageSectors.{number_below}
use Rattle.symmetry_fold.proofs.images.+image_number.Goals as goal

pub returns-clause-bound : goal.returns-clause-bound
returns-clause-bound t c = number_below c.args.n c.digit_at.result c.image_number-others.result (omega (arith, c.if-n-eq0.false)) c.requires c.digit_at.ensures.bound c.image_number-others.ensures.bound
