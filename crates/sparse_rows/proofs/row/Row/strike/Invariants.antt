use Rattle.std.proofs.Common.{◌≡◌, take}
use Rattle.ibp_algebra.specs.FormalSum.{strike}
use Rattle.sparse_rows.specs.Rows.{is_zero_integral}
use Rattle.sparse_rows.proofs.row.Row.strike.Given as goal

abbrev pub invariant-loop-integral : goal.invariant-loop-integral
invariant-loop-integral l = l.kept.items ≡ strike (is_zero_integral l.zero) (take l.integral-index l.integral-items)
