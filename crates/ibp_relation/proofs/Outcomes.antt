-- The answers of the identity of a field at a seed: its row, its uniqueness, and which refusal comes where.
use Rattle.std.proofs.Common.{◌≡◌, ◌≢◌, ℕ, ◌-◌, ◌%◌, ◌<◌, ◌≤◌, Bool, true, false, List, [], length, refl, sym, ap, subst, ◌∙◌, ⊎_elim, arith}
use Rattle.std.specs.Prelude.{ℤ}
use Rattle.std.specs.Ordering.{eq_by_cmp}
use Rattle.std.proofs.lemmas.Bool.{cases_lt}
use Rattle.ibp_algebra.specs.FormalSum.{strike}
use Rattle.ibp_algebra.specs.Polynomial.{Polynomial}
use Rattle.ibp_algebra.specs.Field.{IsDivided, MeetsConditions}
use Rattle.ibp_algebra.specs.Laurent.{Laurent, same_powers, SameLaurent, coefficient_at_power, laurent}
use Rattle.ibp_algebra.specs.Identity.{negated, in_sector_of, IsIdentityRow}
use Rattle.ibp_algebra.proofs.Canonical.{same_canonical}
use Rattle.ibp_algebra.proofs.PolynomialLaws.{same_polynomials}
use Rattle.ibp_algebra.proofs.Striking.{coefficient-strike_kept, coefficient-strike_struck}
use Rattle.ibp_algebra.proofs.SumLaws.{SameCoefficients-trans, SameCoefficients-from_eq, SameCoefficients-retest}
use Rattle.mono_order.specs.declared.limits.TheConstants.{VARIABLES}
use Rattle.sector_lattice.specs.Sectors.{integral_cmp}
use Rattle.sector_lattice.specs.Orders.{integral_cmp_total, same_integrals, integrals_decide}
use Rattle.sparse_rows.specs.Rows.{SameRow}
use Rattle.family.specs.Shapes.{IsPolynomial, IsField, ArePowers}
use Rattle.ibp_relation.specs.Conditions.{IsFirstUndivided, NoneRises}
use Rattle.ibp_relation.specs.Shifts.{shifts}
use Rattle.ibp_relation.specs.Uniqueness.{OneRow}
use Rattle.ibp_relation.proofs.LaurentLaws.{powers_decide}
use Rattle.ibp_relation.proofs.Embedding.{laurent_not_zero}
use Rattle.ibp_relation.proofs.Uniqueness.{IsIdentity-unique}
use Rattle.ibp_relation.proofs.Rows.{IsIdentityRow-shifts, IsIdentity-DoesNotRise}

-- ---- the row

pub SameLaurent-from_row : {f g : Laurent} → SameRow f g → SameLaurent f g
SameLaurent-from_row h = SameCoefficients-retest (eq_by_cmp integral_cmp) same_powers integrals_decide powers_decide h

pub SameRow-from_laurent : {f g : Laurent} → SameLaurent f g → SameRow f g
SameRow-from_laurent h = SameCoefficients-retest same_powers (eq_by_cmp integral_cmp) powers_decide integrals_decide h

-- the sum of the shifts, without the integrals that are struck
pub identity_row : (n γ : ℕ) (p : Polynomial) (a : List Polynomial) (b : Polynomial) (α : List ℤ) (struck : List ℤ → Bool) (terms now sum row : Laurent)
    → length α ≡ n → length a ≡ n → MeetsConditions p (in_sector_of α) a b → SameLaurent terms (shifts n γ a b α) → now ≡ terms → SameRow sum now
    → row ≡ strike struck sum → IsIdentityRow n γ p a α struck row
identity_row n γ p a b α struck terms now sum row long fits meets made is summed e =
    let all : SameLaurent sum (shifts n γ a b α) = SameCoefficients-trans (SameLaurent-from_row summed) (SameCoefficients-trans (SameCoefficients-from_eq is) made) in
    subst (λ (r : Laurent). IsIdentityRow n γ p a α struck r) (sym e)
    (IsIdentityRow-shifts n γ p a b α struck (strike struck sum) long (omega arith) meets
    (λ β fails. ap (λ k. k % 2147483647) (coefficient-strike_kept same_powers powers_decide struck β sum fails) ∙ all.same_at β)
    (λ β passes. ap (λ k. k % 2147483647) (coefficient-strike_struck same_powers powers_decide struck β sum passes)))

pub not_zero : (n degree : ℕ) (p : Polynomial) → n ≤ VARIABLES → IsPolynomial n degree p → p ≢ [] → ¬ (SameLaurent (laurent n p) [])
not_zero n degree p few shape some = laurent_not_zero n p few shape.variables (λ zero. some (same_polynomials p [] shape.canonical tt zero))

pub none_rises : (n degree high γ : ℕ) (p : Polynomial) (a : List Polynomial) (b : Polynomial) (α : List ℤ) → n ≤ VARIABLES → IsPolynomial n degree p → p ≢ []
    → IsField n high a b → ArePowers n α → MeetsConditions p (in_sector_of α) a b → NoneRises n γ p a α
none_rises n degree high γ p a b α few shape some field powers meets r r_powers is β counts =
    IsIdentity-DoesNotRise n γ p a b α r powers.count (omega (arith, field.count)) (λ j below. (field.polynomials j [] below).canonical)
    (not_zero n degree p few shape some) meets r_powers is β counts

pub one_row : OneRow
one_row n degree γ p a α struck row other few shape some first second h k =
    let same = IsIdentity-unique n γ p a α h.identity k.identity h.powers k.powers (not_zero n degree p few shape some) h.is_identity k.is_identity in
    let alike : SameLaurent row other = record {
      same_at = λ β.
          elim (struck β) as (λ v. struck β ≡ v → coefficient_at_power row β ≡ coefficient_at_power other β) [
            | true ↦ λ e. h.zero β e ∙ sym (k.zero β e)
            | false ↦ λ e. h.kept β e ∙ same.same_at (negated β) ∙ sym (k.kept β e)
          ] refl;
    }
    in
    same_canonical integral_cmp integral_cmp_total (eq_by_cmp integral_cmp) integrals_decide same_integrals row other first second (SameRow-from_laurent alike)

-- ---- the refusals

pub divided_or_first : (inside : ℕ → Bool) (a : List Polynomial) (i : ℕ) → IsDivided inside a → ¬ (IsFirstUndivided inside a i)
divided_or_first inside a i h first = first.undivided (h (i - 1) (omega (arith, first.some, first.within)) first.in_sector)

not_earlier : (inside : ℕ → Bool) (a : List Polynomial) (i j : ℕ) → IsFirstUndivided inside a i → IsFirstUndivided inside a j → i < j → ⊥
not_earlier inside a i j first second below = first.undivided (second.earlier (i - 1) (omega (arith, first.some)) first.in_sector)

pub first_unique : (inside : ℕ → Bool) (a : List Polynomial) (i j : ℕ) → IsFirstUndivided inside a i → IsFirstUndivided inside a j → i ≡ j
first_unique inside a i j first second =
    ⊎_elim (λ (below : i < j). absurd (not_earlier inside a i j first second below))
    (λ (le : j ≤ i).
    ⊎_elim (λ (above : j < i). absurd (not_earlier inside a j i second first above)) (λ (ge : i ≤ j). omega arith) (cases_lt j i))
    (cases_lt i j)
