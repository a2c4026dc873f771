-- The laws of rows.
--     FormExists, FormIsUnique      each row has one reduced form by the span of a list of rows, and only one
--     InsertsAll old new rows       these numbered rows are inserted one after another
--     KeptSpanInserted              the rows that are kept span what all inserted ones span
-- Source: linear algebra.
use Rattle.std.specs.Prelude.{◌≡◌, ◌↔◌, List, [], ◌∷◌, map}
use Rattle.sector_lattice.specs.Sectors.{integral_cmp}
use Rattle.ibp_algebra.specs.Spans.{IsReducedForm}
use Rattle.sparse_rows.specs.Rows.{IntegralSum, SameRow}
use Rattle.row_echelon.specs.declared.inserted.Inserted.{Inserted}
use Rattle.row_echelon.specs.Echelons.{KeptRows, InKeptSpan, IsBelow, Inserts}
use Rattle.row_echelon.specs.RowSpans.{WholeSpan}

abbrev pub FormExists : Type 0
FormExists = (rows : List IntegralSum) (f : IntegralSum) → (w : IntegralSum) × IsReducedForm integral_cmp (WholeSpan integral_cmp rows) f w

abbrev pub FormIsUnique : Type 0
FormIsUnique =
    (rows : List IntegralSum) (f w other : IntegralSum)
    → IsReducedForm integral_cmp (WholeSpan integral_cmp rows) f w → IsReducedForm integral_cmp (WholeSpan integral_cmp rows) f other → SameRow w other

-- each number is above those of the rows that are kept
abbrev pub InsertsAll : KeptRows → KeptRows → KeptRows → Type 0
InsertsAll old new [] = new ≡ old
InsertsAll old new (row ∷ rows) =
    (next : KeptRows) × (answer : Inserted) × IsBelow old row.0 × Inserts old next row.1 row.0 answer × InsertsAll next new rows

abbrev pub KeptSpanInserted : Type 0
KeptSpanInserted =
    (rows kept : KeptRows) → InsertsAll [] kept rows
    → (f : IntegralSum) → InKeptSpan kept f ↔ WholeSpan integral_cmp (map (λ row. row.1) rows) f
