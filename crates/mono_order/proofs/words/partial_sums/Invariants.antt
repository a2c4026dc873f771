use Rattle.std.proofs.Common.{◌≡◌, ◌+◌, ◌*◌, ◌<◌, ◌≤◌, ℕ, length, get_or}
use Rattle.mono_order.specs.declared.limits.TheConstants.{VARIABLES}
use Rattle.mono_order.specs.PartialSums.{partial_sum}
use Rattle.mono_order.proofs.words.partial_sums.Given as goal

abbrev pub invariant-loop-i : goal.invariant-loop-i
invariant-loop-i l =
    record {
      long : length l.sums ≡ VARIABLES;
      sums : (k : ℕ) → k < l.i → get_or l.sums k 0 ≡ partial_sum (k + 1) l.exponents;
      sum : l.sum ≡ partial_sum l.i l.exponents;
      small : l.sum ≤ 65535 * l.i;
    }
