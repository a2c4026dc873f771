use Rattle.std.proofs.Common.{◌≡◌, ◌<◌, ◌≤◌, ℕ, get_or}
use Rattle.fast_division.proofs.window.Cells.settle.Given as goal

abbrev pub invariant-zero_blocks : goal.invariant-zero_blocks
invariant-zero_blocks l =
    record {
      values : l.self.values.items ≡ l.fn.self.values.items;
      terms : l.self.terms.items ≡ l.fn.self.terms.items;
      top : l.self.top ≤ l.fn.self.top;
      zeros : (i : ℕ) → l.self.top ≤ i → i < l.fn.self.top → get_or l.fn.self.values.items i 0 ≡ 0;
    }

abbrev pub decreases-zero_blocks : goal.decreases-zero_blocks
decreases-zero_blocks l = l.self.top

abbrev pub invariant-zeros : goal.invariant-zeros
invariant-zeros l =
    record {
      values : l.self.values.items ≡ l.fn.self.values.items;
      terms : l.self.terms.items ≡ l.fn.self.terms.items;
      top : l.self.top ≤ l.fn.self.top;
      zeros : (i : ℕ) → l.self.top ≤ i → i < l.fn.self.top → get_or l.fn.self.values.items i 0 ≡ 0;
    }

abbrev pub decreases-zeros : goal.decreases-zeros
decreases-zeros l = l.self.top
