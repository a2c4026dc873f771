use Rattle.row_echelon.proofs.columns.Columns.over.Given as goal

abbrev pub invariant-loop-number : goal.invariant-loop-number
invariant-loop-number l = Unit {0}
