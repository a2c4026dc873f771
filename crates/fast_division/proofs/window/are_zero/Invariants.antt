use Rattle.std.proofs.Common.{◌≤◌, ◌<◌, ◌*◌, ℕ, get_or}
use Rattle.fast_division.proofs.window.are_zero.Given as goal

abbrev pub invariant-loop-value : goal.invariant-loop-value
invariant-loop-value l =
    record {
      each : (i : ℕ) → i < l.value-index → get_or l.values i 0 ≤ l.sum;
      small : l.sum ≤ l.value-index * 2147483646;
    }
