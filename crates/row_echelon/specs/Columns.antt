-- Integrals with numbers, the higher integral with the lower number, and rows by these numbers.
--     integral_at columns n              the integral with this number
--     named columns f                    the formal sum with integrals in place of their numbers
--     Falls columns                      each integral is higher than the later ones
--     IsZeroRow dense                    each residue is zero
--     IsMarked dense marks               each residue in a block with no mark is zero; a block is 64 columns
--     FitsColumns columns rows kept      these rows by numbers are the kept ones
--     ColumnsEliminated ..               what is left of a row by columns, and what was subtracted
-- Source: linear algebra: a matrix whose columns are the integrals, highest first.
use Rattle.std.specs.Prelude.{◌≡◌, ℕ, ℤ, ◌*◌, ◌/◌, ◌%◌, ◌<◌, ◌≤◌, Bool, false, IsTrue, IfSome, List, [], ◌∷◌, ◌++◌, length, slice_get, slice_index_or}
use Rattle.std.specs.declared.cmp.Ordering.TheVariants.{Greater}
use Rattle.ibp_algebra.specs.FormalSum.{FormalSum, AllKeys, IsCanonical, map_keys}
use Rattle.ibp_algebra.specs.Combination.{combination}
use Rattle.ibp_algebra.specs.Spans.{row_at}
use Rattle.sector_lattice.specs.Sectors.{integral_cmp}
use Rattle.sparse_rows.specs.Rows.{IntegralSum, SameRow}
use Rattle.row_echelon.specs.Echelons.{number_cmp}
use Rattle.row_echelon.specs.KeptRows.{Entries, reduced_rows, NoPivot}

abbrev pub integral_at : List (List ℤ) → ℕ → List ℤ
integral_at columns number = slice_index_or columns number []

abbrev pub named : List (List ℤ) → FormalSum ℕ → IntegralSum
named columns f = map_keys (integral_at columns) f

abbrev pub Falls : List (List ℤ) → Type 0
Falls columns = (i j : ℕ) → i < j → j < length columns → integral_cmp (integral_at columns i) (integral_at columns j) ≡ Greater

abbrev pub IsZeroRow : List ℕ → Type 0
IsZeroRow dense = (i : ℕ) → slice_index_or dense i 0 % 2147483647 ≡ 0

pub record IsMarked (dense : List ℕ) (marks : List Bool) : Type 0 where
  pub room : length dense ≤ 64 * length marks
  pub zero : (i : ℕ) → slice_index_or marks (i / 64) false ≡ false → slice_index_or dense i 0 % 2147483647 ≡ 0

abbrev pub HasColumns : List (List ℤ) → FormalSum ℕ → Type 0
HasColumns columns f = AllKeys (λ number. number < length columns) f

-- each row by numbers is the kept row of its place
abbrev pub FitsColumns : List (List ℤ) → List (FormalSum ℕ) → List IntegralSum → Type 0
FitsColumns columns [] [] = Unit {0}
FitsColumns columns (row ∷ rows) (kept ∷ others) = HasColumns columns row × (named columns row ≡ kept) × FitsColumns columns rows others
FitsColumns columns rows others = ⊥

-- what is left of a row, and the multiples that were subtracted; `whole` where no lead is left below the first
pub record ColumnsEliminated (entries : Entries) (columns : List (List ℤ)) (whole : Bool) (row : IntegralSum) (terms steps : FormalSum ℕ) : Type 0 where
  pub sum : SameRow row (named columns terms ++ combination (row_at (reduced_rows entries)) steps)
  pub places : AllKeys (λ place. place < length entries) steps
  pub within : HasColumns columns terms
  pub ascending : IsCanonical number_cmp terms
  pub lead : IfSome (slice_get terms 0) (λ term. NoPivot entries (integral_at columns term.0))
  pub reduced : IsTrue whole → AllKeys (λ number. NoPivot entries (integral_at columns number)) terms
