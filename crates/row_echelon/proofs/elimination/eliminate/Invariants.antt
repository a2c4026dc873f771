use Rattle.std.proofs.Common.{◌≤◌, length, drop}
use Rattle.row_echelon.specs.KeptRows.{IsUntouched}
use Rattle.row_echelon.proofs.Eliminating.{IsElimination}
use Rattle.row_echelon.proofs.Measures.{pivots_left}
use Rattle.row_echelon.proofs.elimination.eliminate.Given as goal

abbrev pub invariant-loop-found : goal.invariant-loop-found
invariant-loop-found l =
    record {
      eliminated : IsElimination l.kept.entries l.row l.left.rest l.left.steps.items;
      within : l.from ≤ length l.left.rest;
      untouched : IsUntouched l.kept.entries l.left.rest 0 l.from;
    }

abbrev pub decreases-loop-found : goal.decreases-loop-found
decreases-loop-found l = pivots_left l.kept.entries (drop l.from l.left.rest)
