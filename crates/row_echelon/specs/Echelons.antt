-- Kept rows: rows with numbers, in the order in which they were kept. The numbers ascend.
--     row_numbered kept n       the row with the number n; where there is none it is empty
--     IsNumber kept n           a kept row has the number n
--     InKeptSpan kept f         f is a combination of kept rows
--     AreIndependent kept       only weights that are zero give zero
--     IsBelow kept n            each kept row has a number below n
--     Inserts old new row n i   what `insert` does
-- Source: linear algebra: Gauss's elimination, which Laporta's algorithm does with the highest integrals first.
use Rattle.std.specs.Prelude.{◌≡◌, ℕ, ◌<◌, List, [], ◌∷◌, ◌++◌, map, All, Contains, ◌==◌, if◌then◌else◌}
use Rattle.std.specs.Ordering.{nat_cmp}
use Rattle.std.specs.declared.cmp.Ordering.{Ordering}
use Rattle.sector_lattice.specs.Sectors.{integral_cmp}
use Rattle.ibp_algebra.specs.Spans.{InSpan, IsIndependent}
use Rattle.sparse_rows.specs.Rows.{IntegralSum}
use Rattle.row_echelon.specs.declared.inserted.Inserted.{Inserted}
use Rattle.row_echelon.specs.declared.inserted.Inserted.TheVariants.{Kept, Dependent}

abbrev pub KeptRows : Type 0
KeptRows = List (ℕ × IntegralSum)

abbrev pub row_numbered : KeptRows → ℕ → IntegralSum
row_numbered [] n = []
row_numbered (kept ∷ others) n = if kept.0 == n then kept.1 else row_numbered others n

abbrev pub IsNumber : KeptRows → ℕ → Type 0
IsNumber kept n = Contains (map (λ row. row.0) kept) n

abbrev pub InKeptSpan : KeptRows → IntegralSum → Type 0
InKeptSpan kept f = InSpan integral_cmp (row_numbered kept) (IsNumber kept) f

abbrev pub AreIndependent : KeptRows → Type 0
AreIndependent kept = IsIndependent nat_cmp integral_cmp (row_numbered kept) (IsNumber kept)

-- the order in which weights stand: the lower number first
abbrev pub number_cmp : ℕ → ℕ → Ordering
number_cmp a b = nat_cmp b a

abbrev pub IsBelow : KeptRows → ℕ → Type 0
IsBelow kept n = All (λ row. row.0 < n) kept

-- what `insert` does with a row: a row in the span changes nothing, and another one is kept
abbrev pub Inserts : KeptRows → KeptRows → IntegralSum → ℕ → Inserted → Type 0
Inserts old new row number Kept = (¬ (InKeptSpan old row)) × (new ≡ old ++ (number, row) ∷ [])
Inserts old new row number Dependent = InKeptSpan old row × (new ≡ old)
