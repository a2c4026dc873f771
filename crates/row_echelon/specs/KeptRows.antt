-- What an echelon keeps: entries of a lead and a kept row.
use Rattle.std.specs.Prelude.{◌≡◌, ◌≢◌, ℕ, ℤ, suc, ◌*◌, ◌%◌, ◌^◌, ◌<◌, ◌≤◌, List, [], ◌∷◌, ◌++◌, length, map, All, slice_index_or}
use Rattle.ibp_algebra.specs.FormalSum.{FormalSum, AllKeys, IsCanonical, normal_form}
use Rattle.sector_lattice.specs.Sectors.{integral_cmp}
use Rattle.ibp_algebra.specs.Combination.{combination}
use Rattle.ibp_algebra.specs.Spans.{row_at, IsLead, coefficient_by}
use Rattle.sparse_rows.specs.Rows.{IntegralSum}
use Rattle.row_echelon.specs.Echelons.{KeptRows, AreIndependent}
use Rattle.row_echelon.specs.declared.kept.Kept.{Kept}

abbrev pub Entries : Type 0
Entries = List (List ℤ × Kept)

abbrev pub reduced_rows : Entries → List IntegralSum
reduced_rows entries = map (λ entry. entry.1.reduced) entries

-- the rows as they were kept, with their numbers, where these reduced rows stand before
abbrev pub originals : List IntegralSum → Entries → KeptRows
originals before [] = []
originals before (entry ∷ entries) =
    (entry.1.number, normal_form integral_cmp (entry.1.reduced ++ combination (row_at before) entry.1.steps.items))
    ∷ originals (before ++ entry.1.reduced ∷ []) entries

-- no kept row has its lead at the key
abbrev pub NoPivot : Entries → List ℤ → Type 0
NoPivot [] key = Unit {0}
NoPivot (entry ∷ entries) key = (entry.0 ≢ key) × NoPivot entries key

-- the terms at places from low to below high are at no lead
abbrev pub IsUntouched : Entries → IntegralSum → ℕ → ℕ → Type 0
IsUntouched entries f low high = (i : ℕ) (t : List ℤ × ℕ) → low ≤ i → i < high → NoPivot entries (slice_index_or f i t).0

-- each entry has its row's lead and the inverse of the coefficient there, and each step names an earlier place
abbrev pub EchelonFrom : ℕ → Entries → Type 0
EchelonFrom place [] = Unit {0}
EchelonFrom place (entry ∷ entries) =
    IsLead integral_cmp entry.1.reduced entry.0 × IsCanonical integral_cmp entry.1.reduced
    × ((entry.1.inverse * coefficient_by integral_cmp entry.1.reduced entry.0) % 2147483647 ≡ 1)
    × AllKeys (λ i. i < place) entry.1.steps.items × NoPivot entries entry.0 × EchelonFrom (suc place) entries

-- each number is below the later ones
abbrev pub Ascends : KeptRows → Type 0
Ascends [] = Unit {0}
Ascends (kept ∷ others) = All (λ row. kept.0 < row.0) others × Ascends others

-- the numbers of places fit where those of rows do
pub record IsEchelon (entries : Entries) : Type 0 where
  pub few : length entries ≤ 2 ^ 32
  pub form : EchelonFrom 0 entries
  pub numbers : Ascends (originals [] entries)
  pub independent : AreIndependent (originals [] entries)

-- the formal sum over the places of a list, from this one on
abbrev pub by_place : ℕ → List ℕ → FormalSum ℕ
by_place first [] = []
by_place first (value ∷ values) = (first, value) ∷ by_place (suc first) values
