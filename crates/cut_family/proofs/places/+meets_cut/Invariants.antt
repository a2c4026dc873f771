use Rattle.std.proofs.Common.{length}
use Rattle.cut_family.proofs.places.+meets_cut.Given as goal

abbrev pub decreases-meets_cut : goal.decreases-meets_cut
decreases-meets_cut l = length l.exponents.now
