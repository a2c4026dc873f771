use Rattle.std.proofs.Common.{length}
use Rattle.cut_family.proofs.places.+rises_on_cut.Given as goal

abbrev pub decreases-rises_on_cut : goal.decreases-rises_on_cut
decreases-rises_on_cut l = length l.powers.now
