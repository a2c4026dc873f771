use Rattle.std.proofs.Common.{◌≡◌, take}
use Rattle.system_check.specs.Rightness.{targets_of}
use Rattle.system_check.proofs.reductions.are_targets.Given as goal

abbrev pub invariant-loop-place : goal.invariant-loop-place
invariant-loop-place l = targets_of (take l.place l.reductions) ≡ take l.place l.targets
