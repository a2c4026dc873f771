-- The row of the identity of a field that meets the conditions: the shifts, with the struck integrals left
-- out, are such a row, and no power rises in it.
use Rattle.std.proofs.Common.{◌≡◌, ◌≢◌, ℕ, zero, suc, ◌+◌, ◌%◌, ◌<◌, ◌≤◌, Bool, true, false, if◌then◌else◌, List, [], ◌∷◌, ◌++◌, map, length, get_or, sym, refl, ap, subst, ◌∙◌, arith}
use Rattle.std.specs.Prelude.{ℤ, pos, neg_ℤ, ◌+ℤ◌, ◌<ℤ◌, IsTrue, IsFalse}
use Rattle.std.proofs.lemmas.Bool.Decides.{same_from_decides, Decides-like}
use Rattle.std.proofs.lemmas.List.{map-append, length-map}
use Rattle.std.specs.declared.cmp.Ordering.TheVariants.{Less}
use Rattle.std.specs.Ordering.{is_lt}
use Rattle.std.specs.Cmp.{int_cmp_is}
use Rattle.ibp_algebra.specs.FormalSum.{AllKeys, IsCanonical, map_keys}
use Rattle.ibp_algebra.proofs.Weights.{unit_weight, weighted_sum-map_keys, weighted_sum-ext}
use Rattle.ibp_algebra.proofs.Terms.{coefficient-CountingKeys}
use Rattle.ibp_algebra.proofs.ZeroDivisors.{AllKeys-append}
use Rattle.ibp_algebra.specs.Polynomial.{Polynomial, IsDivisibleBy}
use Rattle.ibp_algebra.specs.Field.{MeetsConditions}
use Rattle.ibp_algebra.specs.Exponents.{first_exponents, deg_rev_lex}
use Rattle.ibp_algebra.proofs.ExponentLaws.{length-padded_sum, length-padded_sum_short, length-first_exponents}
use Rattle.ibp_algebra.proofs.Divisibility.{all_from_IsDivisibleBy}
use Rattle.ibp_algebra.specs.Laurent.{Laurent, same_powers, SameLaurent, coefficient_at_power, add_powers, power_at, laurent}
use Rattle.ibp_algebra.specs.Identity.{negated, HasPowers, in_sector_of, IsIdentity, IsIdentityRow, DoesNotRise}
use Rattle.ibp_relation.specs.Shifts.{plus_unit, field_shifts, factor_shifts, field_shifts_from, shifts}
use Rattle.ibp_relation.proofs.LaurentLaws.{powers_decide}
use Rattle.ibp_relation.proofs.ShiftLaws.{negated-negated, IsIdentity-shifts}
use Rattle.ibp_relation.proofs.Uniqueness.{IsIdentity-unique}
use Rattle.ibp_relation.proofs.NoRise.{EachTermDivided, shifts_do_not_rise}

-- two lists are equal where their negatives are
same_negated : (k β : List ℤ) → same_powers (negated k) (negated β) ≡ same_powers k β
same_negated k β =
    same_from_decides _ _
    (Decides-like _ (λ e. sym (negated-negated k) ∙ ap negated e ∙ negated-negated β) (λ e. ap negated e) (powers_decide (negated k) (negated β)))
    (powers_decide k β)

-- the coefficient of z^(-β) where each index stands at its negative
pub coefficient-negated : (f : Laurent) (β : List ℤ) → coefficient_at_power (map_keys negated f) (negated β) ≡ coefficient_at_power f β
coefficient-negated f β =
    ap (λ n. n % 2147483647)
    (weighted_sum-map_keys negated (unit_weight same_powers (negated β)) f ∙ weighted_sum-ext _ _ (λ k. ap (λ b. if b then 1 else 0) (same_negated k β)) f)

-- ---- the first condition, term by term

AllKeys-weaker : (P Q : List ℕ → Type 0) → ((m : List ℕ) → P m → Q m) → (f : Polynomial) → AllKeys P f → AllKeys Q f
AllKeys-weaker P Q h [] all = tt
AllKeys-weaker P Q h (t ∷ f) all = (h t.0 all.0, AllKeys-weaker P Q h f all.1)

AllKeys-each : (Q : List ℕ → Type 0) → ((m : List ℕ) → Q m) → (f : Polynomial) → AllKeys Q f
AllKeys-each Q h [] = tt
AllKeys-each Q h (t ∷ f) = (h t.0, AllKeys-each Q h f)

in_sector_true : (α : List ℤ) (i : ℕ) → pos 0 <ℤ power_at α i → in_sector_of α i ≡ true
in_sector_true α i h = ap is_lt (sym (int_cmp_is (pos 0) (power_at α i) Less h))

divided_if : (α : List ℤ) (i : ℕ) (f : Polynomial) (b : Bool) → in_sector_of α i ≡ b → IsCanonical deg_rev_lex f
    → (IsTrue (in_sector_of α i) → IsDivisibleBy i f) → EachTermDivided i α f
divided_if α i f true e canonical h = AllKeys-weaker _ _ (λ m p _. p) f (all_from_IsDivisibleBy i f canonical (h e))
divided_if α i f false e canonical h =
    AllKeys-each _ (λ m positive. let both : true ≡ false = sym (in_sector_true α i positive) ∙ e in absurd (let clash : ⊥ = cc in clash)) f

divided : (p : Polynomial) (a : List Polynomial) (b : Polynomial) (α : List ℤ) → MeetsConditions p (in_sector_of α) a b
    → ((j : ℕ) → j < length a → IsCanonical deg_rev_lex (get_or a j [])) → (j : ℕ) → j < length a → EachTermDivided j α (get_or a j [])
divided p a b α meets canonical j below = divided_if α j (get_or a j []) (in_sector_of α j) refl (canonical j below) (meets.divisible j below)

-- ---- the lengths of the powers

pub shifted_long : (n : ℕ) (α : List ℤ) (m : List ℕ) → length α ≡ n → length (add_powers α (negated (map pos (first_exponents n m)))) ≡ n
shifted_long n α m h =
    length-padded_sum ◌+ℤ◌ n α (negated (map pos (first_exponents n m))) h
    (length-map (map pos (first_exponents n m)) neg_ℤ ∙ length-map (first_exponents n m) pos ∙ length-first_exponents n m)

pub length-plus_unit : (i : ℕ) → length (plus_unit i) ≡ suc i
length-plus_unit zero = refl
length-plus_unit (suc i) = ap suc (length-plus_unit i)

long_negated : (n : ℕ) (k : List ℤ) → length k ≡ n → HasPowers n (negated k)
long_negated n k h = length-map k neg_ℤ ∙ h

field_powers : (n i : ℕ) (α : List ℤ) (a : Polynomial) → length α ≡ n → i < n → AllKeys (HasPowers n) (map_keys negated (field_shifts i α (laurent n a)))
field_powers n i α [] h below = tt
field_powers n i α (t ∷ a) h below = (
  long_negated n _ (length-padded_sum_short ◌+ℤ◌ n _ (plus_unit i) (shifted_long n α t.0 h) (omega (arith, length-plus_unit i))),
  field_powers n i α a h below,
)

factor_powers : (n γ : ℕ) (α : List ℤ) (b : Polynomial) → length α ≡ n → AllKeys (HasPowers n) (map_keys negated (factor_shifts γ α (laurent n b)))
factor_powers n γ α [] h = tt
factor_powers n γ α (t ∷ b) h = (long_negated n _ (shifted_long n α t.0 h), factor_powers n γ α b h)

moved_append : (f g : Laurent) (P : List ℤ → Type 0) → AllKeys P (map_keys negated f) → AllKeys P (map_keys negated g) → AllKeys P (map_keys negated (f ++ g))
moved_append f g P p q = subst (AllKeys P) (sym (map-append _ f g)) (AllKeys-append P (map_keys negated f) (map_keys negated g) p q)

fields_powers : (n i : ℕ) (α : List ℤ) (a : List Polynomial) → length α ≡ n → i + length a ≤ n → AllKeys (HasPowers n) (map_keys negated (field_shifts_from i α (map (laurent n) a)))
fields_powers n i α [] h fits = tt
fields_powers n i α (a ∷ others) h fits =
    moved_append (field_shifts i α (laurent n a)) (field_shifts_from (suc i) α (map (laurent n) others)) (HasPowers n)
    (field_powers n i α a h (omega arith)) (fields_powers n (suc i) α others h (omega arith))

shifts_powers : (n γ : ℕ) (a : List Polynomial) (b : Polynomial) (α : List ℤ) → length α ≡ n → length a ≤ n
    → AllKeys (HasPowers n) (map_keys negated (shifts n γ a b α))
shifts_powers n γ a b α h fits =
    moved_append (field_shifts_from 0 α (map (laurent n) a)) (factor_shifts γ α (laurent n b)) (HasPowers n)
    (fields_powers n 0 α a h (omega arith)) (factor_powers n γ α b h)

-- ---- the row

-- a row with the coefficients of the shifts, but for the struck integrals, is that of the identity
pub IsIdentityRow-shifts : (n γ : ℕ) (p : Polynomial) (a : List Polynomial) (b : Polynomial) (α : List ℤ) (struck : List ℤ → Bool) (row : Laurent)
    → length α ≡ n → length a ≤ n → MeetsConditions p (in_sector_of α) a b
    → ((β : List ℤ) → IsFalse (struck β) → coefficient_at_power row β ≡ coefficient_at_power (shifts n γ a b α) β)
    → ((β : List ℤ) → IsTrue (struck β) → coefficient_at_power row β ≡ 0)
    → IsIdentityRow n γ p a α struck row
IsIdentityRow-shifts n γ p a b α struck row long fits meets kept none =
    record {
      identity = map_keys negated (shifts n γ a b α);
      powers = shifts_powers n γ a b α long fits;
      is_identity = IsIdentity-shifts n γ p a b α fits meets.tangent;
      kept = λ β h. kept β h ∙ sym (coefficient-negated (shifts n γ a b α) β);
      zero = none;
    }

-- no power rises in the identity of a field that meets the conditions, whichever Laurent polynomial it is
pub IsIdentity-DoesNotRise : (n γ : ℕ) (p : Polynomial) (a : List Polynomial) (b : Polynomial) (α : List ℤ) (r : Laurent)
    → length α ≡ n → length a ≤ n → ((j : ℕ) → j < length a → IsCanonical deg_rev_lex (get_or a j []))
    → ¬ (SameLaurent (laurent n p) [])
    → MeetsConditions p (in_sector_of α) a b → AllKeys (HasPowers n) r → IsIdentity n γ p a α r
    → (β : List ℤ) → coefficient_at_power r (negated β) ≢ 0 → DoesNotRise α β
IsIdentity-DoesNotRise n γ p a b α r long fits canonical not_zero meets r_powers is β counts =
    let table = shifts n γ a b α in
    let one : SameLaurent r (map_keys negated table) =
    IsIdentity-unique n γ p a α r (map_keys negated table) r_powers (shifts_powers n γ a b α long fits) not_zero is
    (IsIdentity-shifts n γ p a b α fits meets.tangent)
    in
    let in_table : coefficient_at_power table β ≢ 0 = λ e. counts (one.same_at (negated β) ∙ coefficient-negated table β ∙ e) in
    coefficient-CountingKeys same_powers powers_decide (DoesNotRise α) table (shifts_do_not_rise n γ a b α fits (divided p a b α meets canonical)) β in_table
