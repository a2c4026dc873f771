use Rattle.std.proofs.Common.{◌≡◌, ◌+◌, ◌<◌, ◌≤◌, ℕ, length, get_or}
use Rattle.mono_order.specs.declared.limits.TheConstants.{VARIABLES}
use Rattle.fast_division.specs.declared.ranks.TheConstants.{PLACES}
use Rattle.fast_division.specs.Ranks.{below}
use Rattle.fast_division.proofs.ranks.next_row.Given as goal

abbrev pub invariant-loop-k : goal.invariant-loop-k
invariant-loop-k l =
    record {
      long : length l.next ≡ VARIABLES;
      entry : l.entry ≡ below l.k (length l.rows);
      small : l.entry ≤ PLACES;
      done : (j : ℕ) → j < l.k → get_or l.next j 0 ≡ below (j + 1) (length l.rows);
      each_small : (j : ℕ) → j < l.k → get_or l.next j 0 ≤ PLACES;
    }
