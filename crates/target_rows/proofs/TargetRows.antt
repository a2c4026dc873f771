-- Rows of one term, and of none.
use Rattle.std.proofs.Common.{◌≡◌, ℕ, ℤ, ◌+◌, ◌<◌, Bool, true, false, not, cond, List, [], ◌∷◌, ◌++◌, length, get_or, take, sym, ◌∙◌, ap}
use Rattle.std.specs.Prelude.{filter}
use Rattle.std.specs.Ordering.{eq_by_cmp}
use Rattle.std.proofs.lemmas.List.Elements.{filter_more}
use Rattle.ibp_algebra.specs.FormalSum.{IsCanonical}
use Rattle.ibp_algebra.proofs.Canonical.{same_canonical}
use Rattle.sector_lattice.specs.Orders.{integral_cmp_total, same_integrals, integrals_decide}
use Rattle.sector_lattice.specs.Sectors.{sector_of, integral_cmp}
use Rattle.sector_lattice.specs.declared.sector.Sector.{Sector}
use Rattle.sparse_rows.specs.Rows.{IntegralSum, SameRow, is_zero_integral}
use Rattle.family.specs.Conditions.{is_zero_sector}
use Rattle.family.specs.FamilyData.{FamilyData}
use Rattle.target_rows.specs.Reductions.{declared_row}

pub same_rows : (f g : IntegralSum) → IsCanonical integral_cmp f → IsCanonical integral_cmp g → SameRow f g → f ≡ g
same_rows f g first second same = same_canonical integral_cmp integral_cmp_total (eq_by_cmp integral_cmp) integrals_decide same_integrals f g first second same

-- a row with the coefficients of one term is that term
pub one_term : (row : IntegralSum) (term : List ℤ × ℕ) → 0 < term.1 → term.1 < 2147483647 → IsCanonical integral_cmp row → SameRow row (term ∷ []) → row ≡ term ∷ []
one_term row term some small canonical same = same_rows row (term ∷ []) canonical (some, small, tt, tt) same

pub no_term : (row : IntegralSum) → IsCanonical integral_cmp row → SameRow row [] → row ≡ []
no_term row canonical same = same_rows row [] canonical tt same

-- whether a target's sector is zero, by the number of its sector
pub is_zero_at : (zero : List Sector) (target : List ℤ) (sector : ℕ) (found : Bool) → sector ≡ sector_of target → found ≡ is_zero_sector zero sector → is_zero_integral zero target ≡ found
is_zero_at zero target sector found is same = sym (same ∙ ap (is_zero_sector zero) is)

pub declared_zero : (family : FamilyData) (target : List ℤ) → is_zero_integral family.zero target ≡ true → [] ≡ declared_row family target
declared_zero family target zero = ap (λ b. cond b [] ((target, 1) ∷ [])) (sym zero)

pub declared_other : (family : FamilyData) (target : List ℤ) → is_zero_integral family.zero target ≡ false → (target, 1) ∷ [] ≡ declared_row family target
declared_other family target other = ap (λ b. cond b [] ((target, 1) ∷ [])) (sym other)

-- one more target is kept, or passed over
pub kept_more : (zero : List Sector) (targets : List (List ℤ)) (i : ℕ) (target : List ℤ) (found : Bool) → i < length targets → target ≡ get_or targets i target → is_zero_integral zero target ≡ found
    → filter (λ t. not (is_zero_integral zero t)) (take (i + 1) targets) ≡ filter (λ t. not (is_zero_integral zero t)) (take i targets) ++ cond (not found) (target ∷ []) []
kept_more zero targets i target found inside is same =
    filter_more (λ t. not (is_zero_integral zero t)) targets i target inside
    ∙ ap (λ (t : List ℤ). filter (λ u. not (is_zero_integral zero u)) (take i targets) ++ cond (not (is_zero_integral zero t)) (t ∷ []) []) (sym is)
    ∙ ap (λ b. filter (λ u. not (is_zero_integral zero u)) (take i targets) ++ cond (not b) (target ∷ []) []) same
