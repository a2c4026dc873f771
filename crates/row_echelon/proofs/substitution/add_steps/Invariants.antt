use Rattle.std.proofs.Common.{◌++◌, take}
use Rattle.std.specs.Ordering.{nat_cmp}
use Rattle.ibp_algebra.specs.FormalSum.{scale}
use Rattle.ibp_algebra.specs.Spans.{SameSum}
use Rattle.row_echelon.specs.KeptRows.{by_place}
use Rattle.row_echelon.proofs.substitution.add_steps.Given as goal

abbrev pub invariant-loop-place : goal.invariant-loop-place
invariant-loop-place l = SameSum nat_cmp (by_place 0 l.sums) (by_place 0 l.initial.sums ++ scale l.factor (take l.place-index l.steps))
