use Rattle.std.proofs.Common.{◌⊎◌, ◌-◌, ◌+◌, ◌++◌, ◌≤◌, drop, length}
use Rattle.ibp_algebra.specs.FormalSum.{scale}
use Rattle.sparse_terms.proofs.Merging.{Merging}
use Rattle.sparse_terms.proofs.add_multiple.Given as goal

abbrev pub invariant-both : goal.invariant-both
invariant-both g l =
    record {
      left_within : l.i ≤ length l.left;
      right_within : l.j ≤ length l.right;
      merging : Merging g.O.KeyOrder.order l.factor (l.left ++ scale l.factor l.right) l.terms.items (drop l.i l.left) (drop l.j l.right);
    }

abbrev pub decreases-both : goal.decreases-both
decreases-both g l = (length l.left - l.i) + (length l.right - l.j)

abbrev pub invariant-left : goal.invariant-left
invariant-left g l =
    record {
      left_within : l.i ≤ length l.left;
      right_within : l.j ≤ length l.right;
      one_left : (length l.left ≤ l.i) ⊎ (length l.right ≤ l.j);
      merging : Merging g.O.KeyOrder.order l.factor (l.left ++ scale l.factor l.right) l.terms.items (drop l.i l.left) (drop l.j l.right);
    }

abbrev pub decreases-left : goal.decreases-left
decreases-left g l = length l.left - l.i

abbrev pub invariant-right : goal.invariant-right
invariant-right g l =
    record {
      left_done : length l.left ≤ l.i;
      right_within : l.j ≤ length l.right;
      merging : Merging g.O.KeyOrder.order l.factor (l.left ++ scale l.factor l.right) l.terms.items (drop l.i l.left) (drop l.j l.right);
    }

abbrev pub decreases-right : goal.decreases-right
decreases-right g l = length l.right - l.j
