-- The declared targets as rows, and their reductions.
--     declared_row             the row of a declared target, which is empty where its sector is zero
--     number_of                the number of a written candidate, from 1 on in candidate order
--     reductions_of            each target with its reduced form and its weights over these numbers
-- Source: linear algebra; targets and their reduced forms as in Laporta's algorithm.
use Rattle.std.specs.Prelude.{ℕ, ℤ, ◌+◌, nat_lt, if◌then◌else◌, List, [], ◌∷◌, count_by}
use Rattle.ibp_algebra.specs.FormalSum.{FormalSum, map_keys}
use Rattle.sparse_rows.specs.Rows.{IntegralSum, is_zero_integral}
use Rattle.family.specs.FamilyData.{FamilyData}
use Rattle.system_text.specs.declared.value.Reduction.{Reduction}

abbrev pub declared_row : FamilyData → List ℤ → IntegralSum
declared_row family target = if is_zero_integral family.zero target then [] else (target, 1) ∷ []

-- by its place among all candidates, where these places are written
abbrev pub number_of : List ℕ → ℕ → ℕ
number_of written place = count_by (λ other. nat_lt other place) written + 1

abbrev pub reductions_of : List ℕ → List (List ℤ) → List IntegralSum → List (FormalSum ℕ) → List Reduction
reductions_of written [] forms weights = []
reductions_of written (target ∷ targets) [] weights = []
reductions_of written (target ∷ targets) (form ∷ forms) [] = []
reductions_of written (target ∷ targets) (form ∷ forms) (w ∷ others) =
    record { target = target; reduced = form; weights = map_keys (number_of written) w } ∷ reductions_of written targets forms others
