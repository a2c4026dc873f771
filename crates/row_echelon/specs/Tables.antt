-- The kept rows by columns.
--     FitsTable table rows      its rows are these ones, and its row for the work is zero
--     AnyTable table rows       the same, where there is one
--     with_rest rows rest       these rows, and what is left of one, where something is
use Rattle.std.specs.Prelude.{◌≡◌, Option, None, Some, List, [], ◌∷◌, ◌++◌, length}
use Rattle.sparse_rows.specs.Rows.{IntegralSum}
use Rattle.row_echelon.specs.Columns.{FitsColumns, IsZeroRow}
use Rattle.row_echelon.specs.declared.table.Table.{Table}

pub record FitsTable (table : Table) (rows : List IntegralSum) : Type 0 where
  pub fits : FitsColumns table.columns table.rows.items rows
  pub zero : IsZeroRow table.work
  pub long : length table.work ≡ length table.columns

abbrev pub AnyTable : Option Table → List IntegralSum → Type 0
AnyTable None rows = Unit {0}
AnyTable (Some table) rows = FitsTable table rows

abbrev pub with_rest : {A : Type 0} → List (List A) → List A → List (List A)
with_rest rows [] = rows
with_rest rows (term ∷ terms) = rows ++ (term ∷ terms) ∷ []
