use Rattle.std.proofs.Common.{◌≡◌, take}
use Rattle.ibp_algebra.specs.FormalSum.{map_keys}
use Rattle.target_rows.specs.Reductions.{number_of}
use Rattle.target_rows.proofs.reductions.numbered.Given as goal

abbrev pub invariant-loop-place : goal.invariant-loop-place
invariant-loop-place l = l.numbered.items ≡ map_keys (number_of l.written) (take l.place-index l.weights)
