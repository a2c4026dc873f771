use Rattle.std.proofs.Common.{◌≡◌, take}
use Rattle.symmetry_fold.specs.Folding.{targets_of}
use Rattle.symmetry_fold.proofs.folding.targets_of.Given as goal

abbrev pub invariant-loop-reduction : goal.invariant-loop-reduction
invariant-loop-reduction l = l.targets.items ≡ targets_of (take l.reduction-index l.reductions)
