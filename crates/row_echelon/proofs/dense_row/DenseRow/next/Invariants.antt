use Rattle.std.proofs.Common.{◌≡◌, ℕ, ◌<◌, ◌≤◌, ◌-◌, ◌%◌, length, get_or}
use Rattle.row_echelon.proofs.dense_row.DenseRow.next.Given as goal

abbrev pub invariant-loop-at : goal.invariant-loop-at
invariant-loop-at l =
    record {
      forward : l.from ≤ l.at;
      passed : (i : ℕ) → l.from ≤ i → i < l.at → get_or l.self-inside.values.items i 0 % 2147483647 ≡ 0;
    }

abbrev pub decreases-loop-at : goal.decreases-loop-at
decreases-loop-at l = length l.self-inside.values.items - l.at
