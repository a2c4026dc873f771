use Rattle.std.proofs.Common.{length}
use Rattle.cut_family.proofs.places.+put_outside.Given as goal

abbrev pub decreases-put_outside : goal.decreases-put_outside
decreases-put_outside g l = length l.entries.now
