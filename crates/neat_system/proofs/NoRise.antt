-- No power rises in the identity of the unstripped form of a field of a sector's module.
use Rattle.std.proofs.Common.{◌≡◌, ◌≢◌, ℕ, zero, suc, ◌+◌, ◌%◌, ◌<◌, ◌≤◌, Bool, true, false, if◌then◌else◌, List, [], ◌∷◌, length, get_or, add-zero, refl, sym, ◌∙◌, ap, subst, arith}
use Rattle.std.specs.Prelude.{ℤ, pos, ◌<ℤ◌}
use Rattle.std.specs.Cmp.{int_cmp_is}
use Rattle.std.specs.Ordering.{is_lt}
use Rattle.std.specs.declared.cmp.Ordering.TheVariants.{Less}
use Rattle.std.proofs.lemmas.Bool.Decides.{same_from_decides}
use Rattle.ibp_algebra.specs.Exponents.{add_exponents}
use Rattle.ibp_algebra.specs.Field.{variable, unit_exponents, unstripped_from, unstripped, IsInModule}
use Rattle.ibp_algebra.specs.FormalSum.{AllKeys, times_term}
use Rattle.ibp_algebra.specs.Identity.{negated, HasPowers, in_sector_of, IsIdentity, IsIdentityRow, DoesNotRise}
use Rattle.ibp_algebra.specs.Laurent.{Laurent, power_at, coefficient_at_power, SameLaurent, laurent, same_powers}
use Rattle.ibp_algebra.specs.Polynomial.{Polynomial, multiply}
use Rattle.ibp_algebra.proofs.ExponentLaws.{get_or-padded_sum}
use Rattle.ibp_algebra.proofs.Terms.{coefficient-CountingKeys}
use Rattle.ibp_algebra.proofs.Weights.{weighted_sum-ext}
use Rattle.ibp_algebra.proofs.ZeroDivisors.{AllKeys-append}
use Rattle.sector_lattice.specs.Orders.{integrals_decide}
use Rattle.sparse_rows.specs.Rows.{coefficient_of}
use Rattle.ibp_relation.specs.Shifts.{shifts}
use Rattle.ibp_relation.proofs.LaurentLaws.{powers_decide}
use Rattle.ibp_relation.proofs.NoRise.{EachTermDivided, shifts_do_not_rise}
use Rattle.ibp_relation.proofs.RowKeys.{none_struck, has_powers}
use Rattle.ibp_relation.proofs.Rows.{IsIdentityRow-shifts}
use Rattle.ibp_relation.proofs.Uniqueness.{IsIdentity-unique}
use Rattle.ibp_relation.proofs.UnstrippedForms.{length-unstripped}

-- ---- a variable divides each term of its multiples

own_exponent : (i : ℕ) → get_or (unit_exponents i) i 0 ≡ 1
own_exponent zero = refl
own_exponent (suc i) = own_exponent i

times_variable : (α : List ℤ) (i : ℕ) (f : Polynomial) → EachTermDivided i α (times_term add_exponents (unit_exponents i, 1) f)
times_variable α i [] = tt
times_variable α i (t ∷ f) = (
  λ positive.
      let added : get_or (add_exponents (unit_exponents i) t.0) i 0 ≡ get_or (unit_exponents i) i 0 + get_or t.0 i 0 =
      get_or-padded_sum ◌+◌ 0 (λ x. omega arith) (λ x. omega arith) (unit_exponents i) t.0 i
      in
      omega (arith, added, own_exponent i),
  times_variable α i f,
)

any_term : (α : List ℤ) (i : ℕ) (f : Polynomial) → ¬ (pos 0 <ℤ power_at α i) → EachTermDivided i α f
any_term α i [] not = tt
any_term α i (t ∷ f) not = (λ positive. absurd (not positive), any_term α i f not)

with_factor : (α : List ℤ) (i : ℕ) (f : Polynomial) → EachTermDivided i α (if in_sector_of α i then multiply (variable i) f else f)
with_factor α i f =
    elim (in_sector_of α i) as (λ b. in_sector_of α i ≡ b → EachTermDivided i α (if b then multiply (variable i) f else f)) [
      | true ↦ λ e. AllKeys-append (λ m. pos 0 <ℤ power_at α i → 0 < get_or m i 0) (times_term add_exponents (unit_exponents i, 1) f) [] (times_variable α i f) tt
      | false ↦ λ e. any_term α i f (λ positive. let both : ◌≡◌ {A = Bool} true false = sym (ap is_lt (sym (int_cmp_is (pos 0) (power_at α i) Less positive))) ∙ e in absurd (cc))
    ] refl

unstripped_divided : (α : List ℤ) (i : ℕ) (c : List Polynomial) (j : ℕ) → j < length (unstripped_from i (in_sector_of α) c) → EachTermDivided (i + j) α (get_or (unstripped_from i (in_sector_of α) c) j [])
unstripped_divided α i [] j below = absurd (omega arith)
unstripped_divided α i (f ∷ c) zero below = subst (λ k. EachTermDivided k α (if in_sector_of α i then multiply (variable i) f else f)) (sym (add-zero i)) (with_factor α i f)
unstripped_divided α i (f ∷ c) (suc j) below =
    let next : suc i + j ≡ i + suc j = omega arith in
    subst (λ k. EachTermDivided k α (get_or (unstripped_from (suc i) (in_sector_of α) c) j [])) next (unstripped_divided α (suc i) c j (omega arith))

-- ---- the identity

module _ (n γ : ℕ) (p : Polynomial) (c : List Polynomial) (b : Polynomial) (α : List ℤ) (long : length α ≡ n) (fits : length c ≡ n) (not_zero : ¬ (SameLaurent (laurent n p) [])) (member : IsInModule p (in_sector_of α) c b) where
  abbrev a : List Polynomial
  a = unstripped (in_sector_of α) c

  few : length a ≤ n
  few = omega (arith, length-unstripped 0 (in_sector_of α) c)

  -- the row of the shifts, with nothing struck
  whole : IsIdentityRow n γ p a α (λ _. false) (shifts n γ a b α)
  whole = IsIdentityRow-shifts n γ p a b α (λ _. false) (shifts n γ a b α) long few member (λ β kept. refl) (λ β struck. let no : ◌≡◌ {A = Bool} false true = struck in absurd (cc))

  pub identity_does_not_rise : (r : Laurent) → AllKeys (HasPowers n) r → IsIdentity n γ p a α r → (β : List ℤ) → coefficient_at_power r (negated β) ≢ 0 → DoesNotRise α β
  identity_does_not_rise r powers is β counts =
      let one : SameLaurent r whole.identity = IsIdentity-unique n γ p a α r whole.identity powers whole.powers not_zero is whole.is_identity in
      let in_table : coefficient_at_power (shifts n γ a b α) β ≢ 0 = λ e. counts (one.same_at (negated β) ∙ sym (whole.kept β refl) ∙ e) in
      coefficient-CountingKeys same_powers powers_decide (DoesNotRise α) (shifts n γ a b α)
      (shifts_do_not_rise n γ a b α few (λ j below. subst (λ k. EachTermDivided k α (get_or a j [])) (let e : 0 + j ≡ j = omega arith in e) (unstripped_divided α 0 c j below))) β in_table

-- ---- the row

coefficient_same : (f : Laurent) (β : List ℤ) → coefficient_of f β ≡ coefficient_at_power f β
coefficient_same f β =
    ap (λ n. n % 2147483647)
    (weighted_sum-ext _ _ (λ k. ap (λ b. if b then 1 else 0) (same_from_decides _ _ (integrals_decide k β) (powers_decide k β))) f)

pub row_does_not_rise : (n γ : ℕ) (p : Polynomial) (c : List Polynomial) (b : Polynomial) (α : List ℤ) (struck : List ℤ → Bool) (row : Laurent) → length α ≡ n → length c ≡ n → ¬ (SameLaurent (laurent n p) [])
    → IsInModule p (in_sector_of α) c b → IsIdentityRow n γ p (unstripped (in_sector_of α) c) α struck row → (β : List ℤ) → coefficient_of row β ≢ 0 → (length β ≡ n) × DoesNotRise α β
row_does_not_rise n γ p c b α struck row long fits not_zero member h β occurs = (
  has_powers n γ p (unstripped (in_sector_of α) c) α struck row h β occurs,
  elim (struck β) as (λ v. struck β ≡ v → DoesNotRise α β) [
    | true ↦ λ e. absurd (occurs (none_struck n γ p (unstripped (in_sector_of α) c) α struck row h β e))
    | false ↦ λ e.
        identity_does_not_rise n γ p c b α long fits not_zero member h.identity h.powers h.is_identity β
        (λ none. occurs (coefficient_same row β ∙ h.kept β e ∙ none))
  ] refl,
)
