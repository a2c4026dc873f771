use Rattle.std.proofs.Common.{length, ◌-◌}
use Rattle.row_echelon.specs.KeptRows.{by_place}
use Rattle.row_echelon.specs.Columns.{named}
use Rattle.row_echelon.proofs.ByColumns.{Walk}
use Rattle.row_echelon.proofs.table.eliminate_columns.Given as goal

abbrev pub invariant-loop-found : goal.invariant-loop-found
invariant-loop-found l = Walk l.kept.entries l.columns l.whole (named l.columns (by_place 0 l.fn.work)) l.at l.work l.left.terms.items l.left.steps.items

abbrev pub decreases-loop-found : goal.decreases-loop-found
decreases-loop-found l = length l.columns - l.at
