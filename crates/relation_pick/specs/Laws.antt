-- The laws of a pick.
--     PickIsUnique        two picks from the same candidates for the same targets are one
--     PickIsIrredundant   its rows are independent, reduce each target as all candidates do, and each is needed
--     PickOfCover         a pick from candidates that cover all is a pick from all
use Rattle.std.specs.Prelude.{◌≡◌, ℕ, List, map}
use Rattle.sector_lattice.specs.Sectors.{integral_cmp}
use Rattle.ibp_algebra.specs.FormalSum.{FormalSum, map_keys}
use Rattle.sparse_rows.specs.Rows.{IntegralSum}
use Rattle.relation_pick.specs.Picking.{IsPick, rows_at, IsIrredundant}
use Rattle.relation_pick.specs.Bases.{Covers, place_at}

abbrev pub PickIsUnique : Type 0
PickIsUnique =
    (candidates targets : List IntegralSum) (written written' : List ℕ) (forms forms' : List IntegralSum) (weights weights' : List (FormalSum ℕ))
    → IsPick integral_cmp candidates targets written forms weights → IsPick integral_cmp candidates targets written' forms' weights'
    → (written ≡ written') × (forms ≡ forms') × (weights ≡ weights')

abbrev pub PickIsIrredundant : Type 0
PickIsIrredundant =
    (candidates targets : List IntegralSum) (written : List ℕ) (forms : List IntegralSum) (weights : List (FormalSum ℕ))
    → IsPick integral_cmp candidates targets written forms weights
    → IsIrredundant integral_cmp candidates targets (rows_at candidates written)

-- places among the covering candidates become places among all
abbrev pub PickOfCover : Type 0
PickOfCover =
    (candidates targets : List IntegralSum) (places written : List ℕ) (forms : List IntegralSum) (weights : List (FormalSum ℕ))
    → Covers integral_cmp candidates places
    → IsPick integral_cmp (rows_at candidates places) targets written forms weights
    → IsPick integral_cmp candidates targets (map (place_at places) written) forms (map (map_keys (place_at places)) weights)
