use Rattle.std.proofs.Common.{length}
use Rattle.ibp_algebra.specs.Combination.{combination}
use Rattle.ibp_algebra.specs.Spans.{row_at}
use Rattle.row_echelon.specs.KeptRows.{reduced_rows}
use Rattle.row_echelon.proofs.Weighing.{Weighing}
use Rattle.row_echelon.proofs.substitution.substitute.Given as goal

abbrev pub invariant-loop-value : goal.invariant-loop-value
invariant-loop-value l = Weighing l.kept.entries (combination (row_at (reduced_rows l.kept.entries)) l.steps) l.weights.items l.sums.items

abbrev pub decreases-loop-value : goal.decreases-loop-value
decreases-loop-value l = length l.sums.items
