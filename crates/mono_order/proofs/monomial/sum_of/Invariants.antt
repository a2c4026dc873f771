use Rattle.std.proofs.Common.{◌≡◌, ◌*◌, ◌≤◌, sum, take}
use Rattle.mono_order.proofs.monomial.sum_of.Given as goal

abbrev pub invariant-loop-i : goal.invariant-loop-i
invariant-loop-i l =
    record {
      done : l.degree ≡ sum (take l.i l.exponents);
      few : l.degree ≤ 65535 * l.i;
    }
