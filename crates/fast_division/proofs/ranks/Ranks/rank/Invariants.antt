use Rattle.std.proofs.Common.{◌≡◌, ◌*◌, ◌≤◌}
use Rattle.fast_division.specs.declared.ranks.TheConstants.{PLACES}
use Rattle.fast_division.specs.Ranks.{rank}
use Rattle.fast_division.proofs.ranks.Ranks.rank.Given as goal

abbrev pub invariant-loop-k : goal.invariant-loop-k
invariant-loop-k l =
    record {
      rank : l.rank ≡ rank l.k l.monomial;
      small : l.rank ≤ PLACES * l.k;
    }
