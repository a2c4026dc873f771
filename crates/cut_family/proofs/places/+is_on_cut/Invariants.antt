use Rattle.std.proofs.Common.{length}
use Rattle.cut_family.proofs.places.+is_on_cut.Given as goal

abbrev pub decreases-is_on_cut : goal.decreases-is_on_cut
decreases-is_on_cut l = length l.powers.now
