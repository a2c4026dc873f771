use Rattle.std.proofs.Common.{◌++◌, take}
use Rattle.std.specs.Ordering.{nat_cmp}
use Rattle.ibp_algebra.specs.FormalSum.{scale}
use Rattle.ibp_algebra.specs.Spans.{SameSum}
use Rattle.row_echelon.specs.KeptRows.{by_place}
use Rattle.row_echelon.specs.Columns.{IsMarked}
use Rattle.row_echelon.proofs.dense_row.add_marked.Given as goal

abbrev pub invariant-loop-column : goal.invariant-loop-column
invariant-loop-column l =
    record {
      sum : SameSum nat_cmp (by_place 0 l.values) (by_place 0 l.initial.values ++ scale l.factor (take l.column-index l.terms));
      marked : IsMarked l.values l.marks;
    }
