use Rattle.std.proofs.Common.{◌≡◌, take}
use Rattle.target_rows.specs.Reductions.{reductions_of}
use Rattle.target_rows.proofs.reductions.reductions_of.Given as goal

abbrev pub invariant-loop-place : goal.invariant-loop-place
invariant-loop-place l = l.reductions.items ≡ reductions_of l.picked.written (take l.place l.targets) l.picked.reductions l.picked.weights
