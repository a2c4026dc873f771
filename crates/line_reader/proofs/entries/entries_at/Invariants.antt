use Rattle.std.proofs.Common.{◌≡◌, ◌≢◌, ◌≤◌, ℕ, List, ◌∷◌, ◌++◌, length}
use Rattle.std.specs.List.{AllByRecursion}
use Rattle.line_reader.specs.Entries.{separated}
use Rattle.line_reader.proofs.Separated.{Left}
use Rattle.line_reader.proofs.entries.entries_at.Given as goal

abbrev pub invariant-loop-others : goal.invariant-loop-others
invariant-loop-others g l = record {
  so_far : (x : g.row.T.Denot) (xs : List g.row.T.Denot) (final : List ℕ) → g.E.Entry.is_entry l.fn.n x → AllByRecursion (g.E.Entry.is_entry l.fn.n) xs → g.E.Entry.ends final
      → ((r : List ℕ) → final ≢ l.fn.separator ++ r) → l.fn.bytes ≡ separated g.E.Entry.text l.fn.separator x xs ++ final
      → Left g.E.Entry.text l.fn.separator (x ∷ xs) l.entries.items final l.rest;
  each : AllByRecursion (g.E.Entry.is_entry l.fn.n) l.entries.items;
  shorter : length l.rest ≤ length l.fn.bytes;
}

abbrev pub decreases-loop-others : goal.decreases-loop-others
decreases-loop-others g l = length l.rest
