use Rattle.std.proofs.Common.{◌≡◌, take}
use Rattle.symmetry_fold.specs.Images.{lowest}
use Rattle.symmetry_fold.proofs.images.lowest.Given as goal

abbrev pub invariant-loop-entry : goal.invariant-loop-entry
invariant-loop-entry l = l.best ≡ lowest (take l.entry-index l.entries) l.integral
