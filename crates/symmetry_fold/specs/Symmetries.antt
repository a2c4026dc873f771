-- Which permutations of the variables are symmetries of a family.
--     IsSymmetry family sigma       the polynomial stays, and the image of every zero sector is zero
--     AreSymmetries family          each permutation of the family is one
--     IsFirstBroken family k        the first that isn't, counted from 1
use Rattle.std.specs.Prelude.{◌≡◌, ℕ, ◌+◌, ◌-◌, ◌<◌, ◌≤◌, true, List, [], ◌++◌, length, drop, slice_index_or}
use Rattle.std.specs.List.{All}
use Rattle.ibp_algebra.specs.Polynomial.{SamePolynomial, permute}
use Rattle.mono_order.specs.declared.limits.TheConstants.{VARIABLES}
use Rattle.family.specs.Conditions.{is_zero_sector}
use Rattle.family.specs.Permutation.{identity}
use Rattle.family.specs.FamilyData.{FamilyData}
use Rattle.symmetry_fold.specs.Images.{image_sector}

-- the variables beyond those of the permutation stay
abbrev pub in_all_variables : List ℕ → List ℕ
in_all_variables sigma = sigma ++ drop (length sigma) (identity VARIABLES)

pub record IsSymmetry (family : FamilyData) (sigma : List ℕ) : Type 0 where
  pub polynomial : SamePolynomial (permute (in_all_variables sigma) family.baikov) family.baikov
  pub zero_sectors : (sector : ℕ) → is_zero_sector family.zero sector ≡ true → is_zero_sector family.zero (image_sector family.n sigma sector) ≡ true

abbrev pub AreSymmetries : FamilyData → Type 0
AreSymmetries family = All (IsSymmetry family) family.symmetries

abbrev pub symmetry_at : FamilyData → ℕ → List ℕ
symmetry_at family place = slice_index_or family.symmetries place []

pub record IsFirstBroken (family : FamilyData) (k : ℕ) : Type 0 where
  pub some : 1 ≤ k
  pub listed : k ≤ length family.symmetries
  pub broken : ¬ (IsSymmetry family (symmetry_at family (k - 1)))
  pub earlier : (place : ℕ) → place + 1 < k → IsSymmetry family (symmetry_at family place)
