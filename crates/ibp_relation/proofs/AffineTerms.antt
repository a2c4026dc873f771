-- The affine terms of a field add up to its shifts at each seed, in whatever order they stand, and fit each seed.
use Rattle.std.proofs.Common.{◌≡◌, ◌≢◌, ℕ, suc, ◌+◌, ◌*◌, ◌%◌, ◌<◌, ◌≤◌, ⊎_elim, List, [], ◌∷◌, ◌++◌, map, length, sum, get_or, take, append_assoc, append-nil, refl, sym, ap, subst, ◌∙◌, arith}
use Rattle.std.specs.Prelude.{ℤ, pos, negsuc, ◌+ℤ◌, ◌-ℤ◌, ◌≤ℤ◌, neg_ℤ}
use Rattle.std.specs.List.{All}
use Rattle.std.specs.List.Sorted.{IsPermutation}
use Rattle.std.proofs.lemmas.Int.{ints}
use Rattle.std.proofs.lemmas.Bool.{cases_eq}
use Rattle.std.proofs.lemmas.List.{map-append, length-take-le, take_more, get_or_default}
use Rattle.std.proofs.lemmas.List.Elements.{All-append, All-map}
use Rattle.std.proofs.lemmas.List.Sorted.{IsPermutation-map, All-permutation}
use Rattle.ibp_field.specs.Arithmetic.{IsCongruent, int_mod, mul_mod, neg_mod}
use Rattle.ibp_field.proofs.Congruence.{IsCongruent-refl, IsCongruent-sym, IsCongruent-trans, IsCongruent-mod, IsCongruent-mul, IsCongruent-add, IsCongruent-from_eq}
use Rattle.ibp_algebra.specs.FormalSum.{weighted_sum}
use Rattle.ibp_algebra.specs.Polynomial.{Polynomial}
use Rattle.ibp_algebra.specs.Laurent.{same_powers, SameLaurent, add_powers, power_at, laurent}
use Rattle.ibp_algebra.specs.Identity.{negated}
use Rattle.ibp_algebra.proofs.ExponentLaws.{length-padded_sum_short}
use Rattle.ibp_algebra.proofs.Lookups.{AllKeys-place}
use Rattle.ibp_algebra.proofs.SumLaws.{SameCoefficients-trans, SameCoefficients-from_eq, SameCoefficients-from_sums}
use Rattle.ibp_algebra.proofs.SumOfExponents.{get_or-le-sum}
use Rattle.ibp_algebra.proofs.Weights.{weighted_sum-IsPermutation, SameCoefficients-from_weights}
use Rattle.mono_order.specs.declared.limits.TheConstants.{MONO_DEGREE}
use Rattle.ibp_relation.specs.Shifts.{HasDegree, plus_unit, powers_of, field_shifts, factor_shifts, field_shifts_from, shifts}
use Rattle.ibp_relation.specs.Templates.{AffineTerm, field_term, factor_term, field_terms_from, affine_terms, term_at, terms_at, FitsSeeds, IsTemplateOf}
use Rattle.ibp_relation.proofs.LaurentLaws.{powers_decide, add_powers_assoc, SameLaurent-refl, SameLaurent-append}
use Rattle.ibp_relation.proofs.NoRise.{power_of_sum, own_unit, other_unit}
use Rattle.ibp_relation.proofs.Powers.{power_of_monomial, opposite_long, opposite_at}
use Rattle.ibp_relation.proofs.Rows.{length-plus_unit}

-- ---- what the terms are at a seed

difference_mod : (m : ℕ) (x z : ℤ) → z ≡ pos m -ℤ x → IsCongruent (int_mod z) (m + 2147483646 * int_mod x)
difference_mod m (pos k) (pos r) e =
    let sum : m ≡ r + k = omega (arith, ints) in
    record { same_residue = omega arith }
difference_mod m (pos k) (negsuc r) e =
    let sum : k ≡ m + r + 1 = omega (arith, ints) in
    record { same_residue = omega arith }
difference_mod m (negsuc k) (pos r) e =
    let sum : r ≡ m + k + 1 = omega (arith, ints) in
    record { same_residue = omega arith }
difference_mod m (negsuc k) (negsuc r) e = absurd (omega (arith, ints))

affine_coefficient : (c m : ℕ) (x : ℤ) → IsCongruent (mul_mod c m + mul_mod (neg_mod 1) c * int_mod x) (int_mod (pos m -ℤ x) * c)
affine_coefficient c m x =
    IsCongruent-trans (IsCongruent-add (IsCongruent-mod (c * m)) (IsCongruent-mul (IsCongruent-mod (2147483646 * c)) (IsCongruent-refl (int_mod x))))
    (IsCongruent-trans (IsCongruent-from_eq {a = c * m + 2147483646 * c * int_mod x} {b = (m + 2147483646 * int_mod x) * c} (omega arith))
    (IsCongruent-mul (IsCongruent-sym (difference_mod m x (pos m -ℤ x) refl)) (IsCongruent-refl c)))

constant_coefficient : (c x : ℕ) → IsCongruent (c % 2147483647 + 0 * x) c
constant_coefficient c x = record { same_residue = omega arith }

field_sum : (w : List ℤ → ℕ) (n i : ℕ) (α : List ℤ) (a : Polynomial) → i < n
    → IsCongruent (weighted_sum w (terms_at α (map (field_term n i) a))) (weighted_sum w (field_shifts i α (laurent n a)))
field_sum w n i α [] h = IsCongruent-refl 0
field_sum w n i α (t ∷ a) h =
    let coefficient : IsCongruent (mul_mod t.1 (get_or t.0 i 0) + mul_mod (neg_mod 1) t.1 * int_mod (power_at α i)) (int_mod (power_at (powers_of n t.0) i -ℤ power_at α i) * t.1) =
    subst (λ x. IsCongruent (mul_mod t.1 (get_or t.0 i 0) + mul_mod (neg_mod 1) t.1 * int_mod (power_at α i)) (int_mod (x -ℤ power_at α i) * t.1)) (sym (power_of_monomial n i t.0 h))
    (affine_coefficient t.1 (get_or t.0 i 0) (power_at α i))
    in
    IsCongruent-add (IsCongruent-mul coefficient (IsCongruent-from_eq (ap w (sym (add_powers_assoc α (negated (powers_of n t.0)) (plus_unit i)))))) (field_sum w n i α a h)

factor_sum : (w : List ℤ → ℕ) (n γ : ℕ) (α : List ℤ) (b : Polynomial)
    → IsCongruent (weighted_sum w (terms_at α (map (factor_term n γ) b))) (weighted_sum w (factor_shifts γ α (laurent n b)))
factor_sum w n γ α [] = IsCongruent-refl 0
factor_sum w n γ α (t ∷ b) =
    IsCongruent-add (IsCongruent-mul (constant_coefficient (γ * t.1) (int_mod (power_at α 0))) (IsCongruent-refl (w (add_powers α (negated (powers_of n t.0))))))
    (factor_sum w n γ α b)

fields_shifted : (n i : ℕ) (α : List ℤ) (a : List Polynomial) → i + length a ≤ n → SameLaurent (terms_at α (field_terms_from n i a)) (field_shifts_from i α (map (laurent n) a))
fields_shifted n i α [] fits = SameLaurent-refl []
fields_shifted n i α (f ∷ a) fits =
    SameCoefficients-trans (SameCoefficients-from_eq (map-append (term_at α) (map (field_term n i) f) (field_terms_from n (suc i) a)))
    (SameLaurent-append (SameCoefficients-from_weights same_powers powers_decide _ _ (λ w. field_sum w n i α f (omega arith)))
    (fields_shifted n (suc i) α a (omega arith)))

affine_shifted : (n γ : ℕ) (a : List Polynomial) (b : Polynomial) (α : List ℤ) → length a ≤ n → SameLaurent (terms_at α (affine_terms n γ a b)) (shifts n γ a b α)
affine_shifted n γ a b α fits =
    SameCoefficients-trans (SameCoefficients-from_eq (map-append (term_at α) (field_terms_from n 0 a) (map (factor_term n γ) b)))
    (SameLaurent-append (fields_shifted n 0 α a (omega arith)) (SameCoefficients-from_weights same_powers powers_decide _ _ (λ w. factor_sum w n γ α b)))

-- ---- that they fit seeds

unit_at : (i k : ℕ) → (pos 0 ≤ℤ power_at (plus_unit i) k) × (power_at (plus_unit i) k ≤ℤ pos 1)
unit_at i k =
    ⊎_elim
    (λ (e : i ≡ k).
    let one : power_at (plus_unit i) k ≡ pos 1 = ap (power_at (plus_unit i)) (sym e) ∙ own_unit i in
    (omega (arith, ints), omega (arith, ints)))
    (λ (apart : i ≢ k).
    let none : power_at (plus_unit i) k ≡ pos 0 = other_unit i k apart in
    (omega (arith, ints), omega (arith, ints)))
    (cases_eq i k)

field_fits : (n i : ℕ) (t : List ℕ × ℕ) → i < n → sum t.0 ≤ MONO_DEGREE → FitsSeeds n (field_term n i t)
field_fits n i t h degree =
    let low = negated (powers_of n t.0) in
    let long : length (add_powers low (plus_unit i)) ≡ n = length-padded_sum_short ◌+ℤ◌ n low (plus_unit i) (opposite_long n t.0) (omega (arith, length-plus_unit i)) in
    record {
      count = long;
      small = λ k d below.
          let within : k < n = omega (arith, long) in
          let value : get_or (add_powers low (plus_unit i)) k d ≡ neg_ℤ (pos (get_or t.0 k 0)) +ℤ power_at (plus_unit i) k =
          get_or_default (add_powers low (plus_unit i)) k d (pos 0) below ∙ power_of_sum low (plus_unit i) k ∙ ap (λ x. x +ℤ power_at (plus_unit i) k) (opposite_at n t.0 k within)
          in
          let unit = unit_at i k in
          let least = unit.0 in
          let most = unit.1 in
          let exponent = get_or-le-sum t.0 k in
          rw value (omega (arith, ints), omega (arith, ints));
      place = h;
    }

factor_fits : (n γ : ℕ) (t : List ℕ × ℕ) → 1 ≤ n → sum t.0 ≤ MONO_DEGREE → FitsSeeds n (factor_term n γ t)
factor_fits n γ t h degree =
    record {
      count = opposite_long n t.0;
      small = λ k d below.
          let within : k < n = omega (arith, opposite_long n t.0) in
          let value : get_or (negated (powers_of n t.0)) k d ≡ neg_ℤ (pos (get_or t.0 k 0)) =
          get_or_default (negated (powers_of n t.0)) k d (pos 0) below ∙ opposite_at n t.0 k within
          in
          let exponent = get_or-le-sum t.0 k in
          rw value (omega (arith, ints), omega (arith, ints));
      place = h;
    }

fields_fit : (n i : ℕ) (a : List Polynomial) → i + length a ≤ n → All (HasDegree MONO_DEGREE) a → All (FitsSeeds n) (field_terms_from n i a)
fields_fit n i [] fits degrees = λ k d below. absurd (omega arith)
fields_fit n i (f ∷ a) fits degrees =
    All-append (FitsSeeds n) (map (field_term n i) f) (field_terms_from n (suc i) a)
    (All-map (FitsSeeds n) (field_term n i) f (λ k d below. field_fits n i (get_or f k d) (omega arith) (AllKeys-place (λ m. sum m ≤ MONO_DEGREE) f k d (degrees 0 f (omega arith)) below)))
    (fields_fit n (suc i) a (omega arith) (λ k d below. degrees (suc k) d (omega arith)))

affine_fit : (n γ : ℕ) (a : List Polynomial) (b : Polynomial) → 1 ≤ n → length a ≤ n → All (HasDegree MONO_DEGREE) a → HasDegree MONO_DEGREE b → All (FitsSeeds n) (affine_terms n γ a b)
affine_fit n γ a b some fits degrees degree =
    All-append (FitsSeeds n) (field_terms_from n 0 a) (map (factor_term n γ) b) (fields_fit n 0 a (omega arith) degrees)
    (All-map (FitsSeeds n) (factor_term n γ) b (λ k d below. factor_fits n γ (get_or b k d) some (AllKeys-place (λ m. sum m ≤ MONO_DEGREE) b k d degree below)))

-- ---- in whatever order they stand

pub IsTemplateOf-affine_terms : (n γ : ℕ) (a : List Polynomial) (b : Polynomial) (terms sorted : List AffineTerm) → 1 ≤ n → length a ≡ n → All (HasDegree MONO_DEGREE) a → HasDegree MONO_DEGREE b
    → terms ≡ affine_terms n γ a b → IsPermutation terms sorted → IsTemplateOf n γ a b sorted
IsTemplateOf-affine_terms n γ a b terms sorted some fits degrees degree made moves =
    let sorted_from : IsPermutation (affine_terms n γ a b) sorted = subst (λ (l : List AffineTerm). IsPermutation l sorted) made moves in
    record {
      fits = All-permutation (FitsSeeds n) (affine_terms n γ a b) sorted sorted_from (affine_fit n γ a b some (omega arith) degrees degree);
      shifted = λ α long.
          SameCoefficients-trans
          (SameCoefficients-from_sums same_powers powers_decide (terms_at α sorted) (terms_at α (affine_terms n γ a b))
          (λ w. weighted_sum-IsPermutation w (terms_at α (affine_terms n γ a b)) (terms_at α sorted) (IsPermutation-map (term_at α) (affine_terms n γ a b) sorted sorted_from)))
          (affine_shifted n γ a b α (omega arith));
    }

-- ---- how they are made

fields_append : (n i : ℕ) (a : List Polynomial) (f : Polynomial) → field_terms_from n i (a ++ f ∷ []) ≡ field_terms_from n i a ++ map (field_term n (i + length a)) f
fields_append n i [] f = append-nil (map (field_term n i) f) ∙ ap (λ k. map (field_term n k) f) (omega arith)
fields_append n i (g ∷ a) f =
    let place : suc i + length a ≡ i + suc (length a) = omega arith in
    ap (λ (l : List AffineTerm). map (field_term n i) g ++ l) (fields_append n (suc i) a f ∙ ap (λ k. field_terms_from n (suc i) a ++ map (field_term n k) f) place)
    ∙ sym (append_assoc (map (field_term n i) g) (field_terms_from n (suc i) a) (map (field_term n (i + suc (length a))) f))

pub fields_more : (n : ℕ) (a : List Polynomial) (i : ℕ) (f : Polynomial) → i < length a → f ≡ get_or a i f
    → field_terms_from n 0 (take (i + 1) a) ≡ field_terms_from n 0 (take i a) ++ map (field_term n i) f
fields_more n a i f h is =
    let long : 0 + length (take i a) ≡ i = omega (arith, length-take-le i a (omega arith)) in
    ap (field_terms_from n 0) (take_more a i f h ∙ ap (λ (g : Polynomial). take i a ++ g ∷ []) (sym is))
    ∙ fields_append n 0 (take i a) f ∙ ap (λ k. field_terms_from n 0 (take i a) ++ map (field_term n k) f) long
