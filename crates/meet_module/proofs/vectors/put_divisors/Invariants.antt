use Rattle.std.proofs.Common.{◌≡◌, ◌++◌, map, take}
use Rattle.ibp_algebra.specs.FormalSum.{normal_form}
use Rattle.mono_order.specs.TermOrder.{high_block}
use Rattle.meet_module.specs.MeetRuns.{divisors_from}
use Rattle.meet_module.proofs.vectors.put_divisors.Given as goal

abbrev pub invariant-loop-place : goal.invariant-loop-place
invariant-loop-place l = l.vectors.items ≡ l.fn.vectors.items ++ map (normal_form high_block) (take l.place (divisors_from l.sector.0 0 l.n))
