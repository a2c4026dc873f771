-- The shifts of a tangent field are its identity, with each index β at z^(-β).
use Rattle.std.proofs.Common.{◌≡◌, ℕ, zero, suc, ◌+◌, ◌*◌, ◌≤◌, List, [], ◌∷◌, map, length, get_or, refl, ap, ◌∙◌, arith}
use Rattle.std.specs.Prelude.{ℤ, pos, ◌+ℤ◌, ◌-ℤ◌, neg_ℤ}
use Rattle.std.proofs.lemmas.Int.{ints}
use Rattle.std.proofs.lemmas.List.{map-append}
use Rattle.ibp_algebra.specs.FormalSum.{weighted_sum, scale, map_keys}
use Rattle.ibp_algebra.proofs.Weights.{weighted_sum-append}
use Rattle.ibp_algebra.proofs.SumLaws.{SameCoefficients-trans, SameCoefficients-from_sums}
use Rattle.ibp_algebra.proofs.ExponentLaws.{map-padded_sum, get_or-padded_sum}
use Rattle.ibp_algebra.specs.Polynomial.{Polynomial, SamePolynomial, multiply, derivative_along}
use Rattle.ibp_algebra.specs.Laurent.{Laurent, same_powers, SameLaurent, add_powers, minus_unit, laurent_derivative, laurent}
use Rattle.ibp_algebra.specs.Identity.{negated, at_seed, IsIdentity}
use Rattle.ibp_relation.specs.Shifts.{plus_unit, field_shifts, factor_shifts, field_shifts_from, shifts}
use Rattle.ibp_relation.proofs.LaurentLaws.{powers_decide, add_powers_comm, SameLaurent-refl, SameLaurent-multiply}
use Rattle.ibp_relation.proofs.IdentityLaws.{own_divergence_from, tangent_identity, IsIdentity-tangent}

neg_add : (x y : ℤ) → neg_ℤ (x +ℤ y) ≡ neg_ℤ x +ℤ neg_ℤ y
neg_add x y = omega (arith, ints)

neg_neg : (x : ℤ) → neg_ℤ (neg_ℤ x) ≡ x
neg_neg x = omega (arith, ints)

minus_is : (x y : ℤ) → x +ℤ neg_ℤ y ≡ x -ℤ y
minus_is x y = omega (arith, ints)

none_left : (x : ℤ) → pos 0 +ℤ x ≡ x
none_left x = omega (arith, ints)

none_right : (x : ℤ) → x +ℤ pos 0 ≡ x
none_right x = omega (arith, ints)

negated-add_powers : (a b : List ℤ) → negated (add_powers a b) ≡ add_powers (negated a) (negated b)
negated-add_powers a b = map-padded_sum ◌+ℤ◌ ◌+ℤ◌ neg_ℤ neg_add a b

pub negated-negated : (a : List ℤ) → negated (negated a) ≡ a
negated-negated [] = refl
negated-negated (x ∷ a) = λ i. neg_neg x i ∷ negated-negated a i

negated-plus_unit : (i : ℕ) → negated (plus_unit i) ≡ minus_unit i
negated-plus_unit zero = refl
negated-plus_unit (suc i) = ap (λ k. pos 0 ∷ k) (negated-plus_unit i)

negated-difference : (α k : List ℤ) → negated (add_powers α (negated k)) ≡ add_powers k (negated α)
negated-difference α k = negated-add_powers α (negated k) ∙ ap (add_powers (negated α)) (negated-negated k) ∙ add_powers_comm (negated α) k

negated-raised : (α k : List ℤ) (i : ℕ) → negated (add_powers (add_powers α (negated k)) (plus_unit i)) ≡ add_powers (add_powers k (negated α)) (minus_unit i)
negated-raised α k i =
    negated-add_powers (add_powers α (negated k)) (plus_unit i) ∙ ap (λ a. add_powers a (negated (plus_unit i))) (negated-difference α k)
    ∙ ap (add_powers (add_powers k (negated α))) (negated-plus_unit i)

power_of_negated : (α : List ℤ) (i : ℕ) → get_or (negated α) i (pos 0) ≡ neg_ℤ (get_or α i (pos 0))
power_of_negated [] i = refl
power_of_negated (x ∷ α) zero = refl
power_of_negated (x ∷ α) (suc i) = power_of_negated α i

power_of_difference : (α k : List ℤ) (i : ℕ) → get_or (add_powers k (negated α)) i (pos 0) ≡ get_or k i (pos 0) -ℤ get_or α i (pos 0)
power_of_difference α k i =
    get_or-padded_sum ◌+ℤ◌ (pos 0) none_left none_right k (negated α) i
    ∙ ap (λ x. get_or k i (pos 0) +ℤ x) (power_of_negated α i) ∙ minus_is (get_or k i (pos 0)) (get_or α i (pos 0))

-- one more term, whose coefficient the product with z^(-α) shows as c * 1
one_more : (x c v s s' : ℕ) → s ≡ s' → x * c * v + s ≡ x * (c * 1) * v + s'
one_more x c v s s' e = omega arith

field_sum : (w : List ℤ → ℕ) (i : ℕ) (α : List ℤ) (a : Laurent)
    → weighted_sum w (map_keys negated (field_shifts i α a)) ≡ weighted_sum w (laurent_derivative i (at_seed a α))
field_sum w i α [] = refl
field_sum w i α (t ∷ a) =
    rw (negated-raised α t.0 i, power_of_difference α t.0 i) (one_more _ _ _ _ _ (field_sum w i α a))

factor_sum : (w : List ℤ → ℕ) (γ : ℕ) (α : List ℤ) (b : Laurent)
    → weighted_sum w (map_keys negated (factor_shifts γ α b)) ≡ weighted_sum w (scale γ (at_seed b α))
factor_sum w γ α [] = refl
factor_sum w γ α (t ∷ b) = rw (negated-difference α t.0) (one_more _ _ _ _ _ (factor_sum w γ α b))

fields_sum : (w : List ℤ → ℕ) (i : ℕ) (α : List ℤ) (a : List Laurent)
    → weighted_sum w (map_keys negated (field_shifts_from i α a)) ≡ weighted_sum w (own_divergence_from i a α)
fields_sum w i α [] = refl
fields_sum w i α (a ∷ others) =
    ap (weighted_sum w) (map-append _ (field_shifts i α a) (field_shifts_from (suc i) α others))
    ∙ weighted_sum-append w (map_keys negated (field_shifts i α a)) (map_keys negated (field_shifts_from (suc i) α others))
    ∙ omega (arith, field_sum w i α a, fields_sum w (suc i) α others, weighted_sum-append w (laurent_derivative i (at_seed a α)) (own_divergence_from (suc i) others α))

-- the shifts, each index β at z^(-β), are the identity of a tangent field
pub shifts-tangent_identity : (n γ : ℕ) (a : List Polynomial) (b : Polynomial) (α : List ℤ)
    → SameLaurent (map_keys negated (shifts n γ a b α)) (tangent_identity γ (map (laurent n) a) (laurent n b) α)
shifts-tangent_identity n γ a b α =
    let fields = field_shifts_from 0 α (map (laurent n) a) in
    let factor = factor_shifts γ α (laurent n b) in
    let own = own_divergence_from 0 (map (laurent n) a) α in
    SameCoefficients-from_sums same_powers powers_decide _ _ (λ w.
    ap (weighted_sum w) (map-append _ fields factor) ∙ weighted_sum-append w (map_keys negated fields) (map_keys negated factor)
    ∙ omega (arith, fields_sum w 0 α (map (laurent n) a), factor_sum w γ α (laurent n b), weighted_sum-append w own (scale γ (at_seed (laurent n b) α))))

-- so the shifts of a tangent field give its identity
pub IsIdentity-shifts : (n γ : ℕ) (p : Polynomial) (a : List Polynomial) (b : Polynomial) (α : List ℤ) → length a ≤ n
    → SamePolynomial (derivative_along a p) (multiply b p)
    → IsIdentity n γ p a α (map_keys negated (shifts n γ a b α))
IsIdentity-shifts n γ p a b α fits h =
    record {
      identity =
          SameCoefficients-trans (SameLaurent-multiply (shifts-tangent_identity n γ a b α) (SameLaurent-refl (laurent n p)))
          (IsIdentity-tangent n γ p a b α fits h).identity;
    }
