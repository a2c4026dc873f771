use Rattle.std.proofs.Common.{◌≡◌, ◌++◌, take}
use Rattle.ibp_algebra.specs.FormalSum.{map_keys}
use Rattle.symmetry_fold.specs.Images.{lowest}
use Rattle.symmetry_fold.proofs.rows.put_folded.Given as goal

abbrev pub invariant-loop-integral : goal.invariant-loop-integral
invariant-loop-integral l = l.into.items ≡ l.fn.into.items ++ map_keys (lowest l.entries) (take l.integral-index l.terms)
