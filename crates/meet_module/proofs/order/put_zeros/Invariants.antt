use Rattle.std.proofs.Common.{◌≡◌, ◌++◌, replicate}
use Rattle.meet_module.proofs.order.put_zeros.Given as goal

abbrev pub invariant-loop-place : goal.invariant-loop-place
invariant-loop-place l = l.degrees.items ≡ l.fn.degrees.items ++ replicate l._place 0
