-- Each stripped field of the module of a seed's sector has the row of an identity at the seed.
use Rattle.std.proofs.Common.{◌≡◌, ℕ, Bool, List, length, refl, ◌∙◌}
use Rattle.std.specs.Prelude.{ℤ}
use Rattle.ibp_algebra.specs.FormalSum.{IsCanonical, normal_form, strike}
use Rattle.ibp_algebra.specs.Field.{IsInModule, unstripped}
use Rattle.ibp_algebra.specs.Identity.{in_sector_of, IsIdentityRow}
use Rattle.ibp_algebra.specs.Laurent.{Laurent, same_powers}
use Rattle.ibp_algebra.specs.Polynomial.{Polynomial}
use Rattle.ibp_algebra.proofs.NormalForm.{IsCanonical-normal_form, SameCoefficients-normal_form}
use Rattle.ibp_algebra.proofs.Striking.{IsCanonical-strike}
use Rattle.ibp_algebra.proofs.SumLaws.{SameCoefficients-refl}
use Rattle.sector_lattice.specs.Sectors.{integral_cmp}
use Rattle.sector_lattice.specs.Orders.{integral_cmp_total, same_integrals, integrals_decide}
use Rattle.std.specs.Ordering.{eq_by_cmp}
use Rattle.ibp_relation.specs.Shifts.{shifts}
use Rattle.ibp_relation.proofs.Outcomes.{identity_row}
use Rattle.ibp_relation.proofs.UnstrippedForms.{length-unstripped}

pub some_row : (n γ : ℕ) (p : Polynomial) (c : List Polynomial) (b : Polynomial) (α : List ℤ) (struck : List ℤ → Bool) → length α ≡ n → length c ≡ n → IsInModule p (in_sector_of α) c b
    → (row : Laurent) × IsIdentityRow n γ p (unstripped (in_sector_of α) c) α struck row × IsCanonical integral_cmp row
some_row n γ p c b α struck long fits member =
    let a = unstripped (in_sector_of α) c in
    let terms = shifts n γ a b α in
    let sum = normal_form integral_cmp terms in (
      strike struck sum,
      identity_row n γ p a b α struck terms terms sum (strike struck sum) long (length-unstripped 0 (in_sector_of α) c ∙ fits) member (SameCoefficients-refl same_powers terms) refl
          (SameCoefficients-normal_form integral_cmp integral_cmp_total same_integrals (eq_by_cmp integral_cmp) integrals_decide terms) refl,
      IsCanonical-strike integral_cmp struck sum (IsCanonical-normal_form integral_cmp integral_cmp_total same_integrals terms),
    )
