use Rattle.std.proofs.Common.{◌≡◌, true, take}
use Rattle.ibp_algebra.specs.FormalSum.{AllKeys}
use Rattle.fast_division.proofs.dividend.high_count.Given as goal

abbrev pub invariant-loop-term : goal.invariant-loop-term
invariant-loop-term g l =
    record {
      count : l.count ≡ l.term-index;
      high : AllKeys (λ t. g.O.TermOrder.high t.0 ≡ true) (take l.term-index l.terms);
    }
