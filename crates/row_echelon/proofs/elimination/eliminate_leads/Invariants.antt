use Rattle.std.proofs.Common.{drop}
use Rattle.row_echelon.proofs.Eliminating.{IsElimination}
use Rattle.row_echelon.proofs.Measures.{pivots_left}
use Rattle.row_echelon.proofs.elimination.eliminate_leads.Given as goal

abbrev pub invariant-loop-found : goal.invariant-loop-found
invariant-loop-found l = IsElimination l.kept.entries l.row l.left.rest l.left.steps.items

abbrev pub decreases-loop-found : goal.decreases-loop-found
decreases-loop-found l = pivots_left l.kept.entries (drop 0 l.left.rest)
