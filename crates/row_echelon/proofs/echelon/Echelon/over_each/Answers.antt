use Rattle.std.proofs.Common.{subst, sym}
use Rattle.row_echelon.specs.KeptRows.{IsEchelon, reduced_rows}
use Rattle.row_echelon.specs.Tables.{AnyTable}
use Rattle.row_echelon.proofs.Keeping.{IsEchelon-nil}
use Rattle.row_echelon.proofs.echelon.Echelon.over_each.Goals as goal

pub invariant_of-result : goal.invariant_of-result
invariant_of-result c = (
  subst IsEchelon (sym c.new.ensures.empty) IsEchelon-nil,
  subst (λ es. AnyTable c.in_ok-over.field-0 (reduced_rows es)) (sym c.new.ensures.empty) c.in_ok-over.ensures,
)
