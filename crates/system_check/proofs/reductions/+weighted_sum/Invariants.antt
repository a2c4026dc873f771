use Rattle.std.proofs.Common.{length}
use Rattle.system_check.proofs.reductions.+weighted_sum.Given as goal

abbrev pub decreases-weighted_sum : goal.decreases-weighted_sum
decreases-weighted_sum l = length l.weights.now
