use Rattle.std.proofs.Common.{arith, ap, length}
use Rattle.row_echelon.proofs.ColumnLists.{Falls-canonical}
use Rattle.row_echelon.proofs.columns.Columns.over.Goals as goal

pub invariant_of-result : goal.invariant_of-result
invariant_of-result c = (Falls-canonical c.in_ok-integrals.integrals c.terms.ensures.canonical, omega (arith, c.if-terms.false, ap length c.terms.ensures.same))
