use Rattle.std.proofs.Common.{◌≡◌, ◌++◌, take}
use Rattle.ibp_algebra.specs.FormalSum.{map_keys}
use Rattle.cut_family.specs.Lifting.{lifted_integral}
use Rattle.cut_family.proofs.lifting.put_lifted_row.Given as goal

abbrev pub invariant-loop-integral : goal.invariant-loop-integral
invariant-loop-integral l = l.into.items ≡ l.fn.into.items ++ map_keys (lifted_integral l.n l.cut) (take l.integral-index l.terms)
