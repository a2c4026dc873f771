use Rattle.std.proofs.Common.{◌≡◌, ◌++◌, take}
use Rattle.cut_family.specs.Cutting.{cut_targets}
use Rattle.cut_family.proofs.cutting.put_cut_targets.Given as goal

abbrev pub invariant-loop-target : goal.invariant-loop-target
invariant-loop-target l = l.into.items ≡ l.fn.into.items ++ cut_targets l.cut (take l.target-index l.targets)
