-- The ring of Laurent polynomials, and polynomials as Laurent polynomials.
use Rattle.std.proofs.Common.{◌≡◌, ℕ, zero, suc, ◌+◌, ◌-◌, ◌*◌, ◌<◌, ◌≤◌, List, [], ◌∷◌, ◌++◌, map, get_or, set, ⊎_elim, sym, refl, ap, ◌∙◌, arith}
use Rattle.std.specs.Prelude.{ℤ, pos, negsuc, ◌+ℤ◌}
use Rattle.std.proofs.lemmas.Int.{ints}
use Rattle.std.specs.Bool.{Decides}
use Rattle.std.specs.Cmp.{signed_Decides}
use Rattle.std.specs.Cmp.Lexicographic.{pointwise_decides}
use Rattle.std.proofs.lemmas.Bool.{cases_lt}
use Rattle.std.proofs.lemmas.List.{map-append}
use Rattle.ibp_field.specs.Arithmetic.{IsCongruent, int_mod}
use Rattle.ibp_algebra.specs.FormalSum.{weighted_sum, scale}
use Rattle.ibp_field.proofs.Congruence.{IsCongruent-refl, IsCongruent-sym, IsCongruent-mod, IsCongruent-mul, IsCongruent-add, IsCongruent-from_eq}
use Rattle.ibp_algebra.proofs.Weights.{SameCoefficients-from_weights}
use Rattle.ibp_algebra.proofs.SumLaws.{SameCoefficients-refl, SameCoefficients-sym, SameCoefficients-trans, SameCoefficients-append, SameCoefficients-scale, SameCoefficients-product, SameCoefficients-map_keys, product_comm, product_assoc, product-append_left, product-scale_left, product-map_keys}
use Rattle.ibp_algebra.specs.Exponents.{add_exponents, first_exponents, same_exponents}
use Rattle.ibp_algebra.specs.ExponentOrder.{exponents_decide}
use Rattle.ibp_algebra.specs.Polynomial.{Polynomial, SamePolynomial, multiply, derivative}
use Rattle.ibp_algebra.proofs.ExponentLaws.{padded_sum-nil, padded_sum_comm, padded_sum_assoc, first_exponents-add_exponents, map-padded_sum}
use Rattle.ibp_algebra.specs.Laurent.{Laurent, same_powers, SameLaurent, add_powers, multiply_laurent, minus_unit, laurent_derivative, laurent}

int_add_comm : (x y : ℤ) → x +ℤ y ≡ y +ℤ x
int_add_comm x y = omega (arith, ints)

int_add_assoc : (x y z : ℤ) → (x +ℤ y) +ℤ z ≡ x +ℤ (y +ℤ z)
int_add_assoc x y z = omega (arith, ints)

lower_head : (x : ℕ) → 0 < x → pos (x - 1) ≡ pos x +ℤ negsuc 0
lower_head x h = omega (arith, ints)

keep_head : (x : ℕ) → pos x ≡ pos x +ℤ pos 0
keep_head x = omega (arith, ints)

pos_add : (x y : ℕ) → pos (x + y) ≡ pos x +ℤ pos y
pos_add x y = omega (arith, ints)

pub powers_decide : (a b : List ℤ) → Decides (same_powers a b) (a ≡ b)
powers_decide = pointwise_decides signed_Decides

pub add_powers_comm : (a b : List ℤ) → add_powers a b ≡ add_powers b a
add_powers_comm = padded_sum_comm ◌+ℤ◌ int_add_comm

pub add_powers_assoc : (a b c : List ℤ) → add_powers (add_powers a b) c ≡ add_powers a (add_powers b c)
add_powers_assoc = padded_sum_assoc ◌+ℤ◌ int_add_assoc

-- ---- the ring

pub SameLaurent-refl : (f : Laurent) → SameLaurent f f
SameLaurent-refl f = SameCoefficients-refl same_powers f

pub SameLaurent-append : {f g h k : Laurent} → SameLaurent f g → SameLaurent h k → SameLaurent (f ++ h) (g ++ k)
SameLaurent-append p q = SameCoefficients-append same_powers powers_decide p q

pub SameLaurent-scale : {f g : Laurent} (c : ℕ) → SameLaurent f g → SameLaurent (scale c f) (scale c g)
SameLaurent-scale c p = SameCoefficients-scale same_powers powers_decide c p

pub SameLaurent-multiply : {f g h k : Laurent} → SameLaurent f g → SameLaurent h k → SameLaurent (multiply_laurent f h) (multiply_laurent g k)
SameLaurent-multiply p q = SameCoefficients-product same_powers powers_decide add_powers p q

pub multiply_laurent_comm : (f g : Laurent) → SameLaurent (multiply_laurent f g) (multiply_laurent g f)
multiply_laurent_comm f g = product_comm same_powers powers_decide add_powers add_powers_comm f g

pub multiply_laurent_assoc : (f g h : Laurent) → SameLaurent (multiply_laurent (multiply_laurent f g) h) (multiply_laurent f (multiply_laurent g h))
multiply_laurent_assoc f g h = product_assoc same_powers powers_decide add_powers add_powers_assoc f g h

pub multiply_laurent-append : (f g h : Laurent) → SameLaurent (multiply_laurent (f ++ g) h) (multiply_laurent f h ++ multiply_laurent g h)
multiply_laurent-append f g h = product-append_left same_powers powers_decide add_powers f g h

pub multiply_laurent-scale : (c : ℕ) (f g : Laurent) → SameLaurent (multiply_laurent (scale c f) g) (scale c (multiply_laurent f g))
multiply_laurent-scale c f g = product-scale_left same_powers powers_decide add_powers c f g

-- the last two factors may change places
pub multiply_laurent_swap : (f g h : Laurent) → SameLaurent (multiply_laurent (multiply_laurent f g) h) (multiply_laurent (multiply_laurent f h) g)
multiply_laurent_swap f g h =
    SameCoefficients-trans (multiply_laurent_assoc f g h)
    (SameCoefficients-trans (SameLaurent-multiply (SameLaurent-refl f) (multiply_laurent_comm g h)) (SameCoefficients-sym (multiply_laurent_assoc f h g)))

-- ---- polynomials as Laurent polynomials

pub SameLaurent-laurent : (n : ℕ) {f g : Polynomial} → SamePolynomial f g → SameLaurent (laurent n f) (laurent n g)
SameLaurent-laurent n p = SameCoefficients-map_keys same_exponents exponents_decide same_powers powers_decide (λ m. map pos (first_exponents n m)) p

powers_of_sum : (n : ℕ) (a b : List ℕ) → map pos (first_exponents n (add_exponents a b)) ≡ add_powers (map pos (first_exponents n a)) (map pos (first_exponents n b))
powers_of_sum n a b = ap (map pos) (first_exponents-add_exponents n a b) ∙ map-padded_sum ◌+◌ ◌+ℤ◌ pos pos_add (first_exponents n a) (first_exponents n b)

pub laurent-multiply : (n : ℕ) (f g : Polynomial) → SameLaurent (laurent n (multiply f g)) (multiply_laurent (laurent n f) (laurent n g))
laurent-multiply n f g = product-map_keys same_powers powers_decide add_exponents add_powers (λ m. map pos (first_exponents n m)) (powers_of_sum n) f g

pub laurent-append : (n : ℕ) (f g : Polynomial) → laurent n (f ++ g) ≡ laurent n f ++ laurent n g
laurent-append n f g = map-append _ f g

lowered : (i n : ℕ) (m : List ℕ) → i < n → 0 < get_or m i 0
    → map pos (first_exponents n (set m i (get_or m i 0 - 1))) ≡ add_powers (map pos (first_exponents n m)) (minus_unit i)
lowered i n [] h p = absurd (omega arith)
lowered i zero (x ∷ m) h p = absurd (omega arith)
lowered zero (suc n) (x ∷ m) h p =
    let same : map pos (first_exponents n m) ≡ add_powers (map pos (first_exponents n m)) [] = sym (padded_sum-nil ◌+ℤ◌ (map pos (first_exponents n m))) in
    λ j. lower_head x p j ∷ same j
lowered (suc i) (suc n) (x ∷ m) h p = λ j. keep_head x j ∷ lowered i n m (omega arith) p j

power_of_taken : (i n : ℕ) (m : List ℕ) → i < n → get_or (map pos (first_exponents n m)) i (pos 0) ≡ pos (get_or m i 0)
power_of_taken i zero m h = absurd (omega arith)
power_of_taken zero (suc n) [] h = refl
power_of_taken (suc i) (suc n) [] h = power_of_taken i n [] (omega arith)
power_of_taken zero (suc n) (x ∷ m) h = refl
power_of_taken (suc i) (suc n) (x ∷ m) h = power_of_taken i n m (omega arith)

derivative_term : (w : List ℤ → ℕ) (i n : ℕ) (m : List ℕ) (c : ℕ) → i < n
    → IsCongruent (get_or m i 0 * c * w (map pos (first_exponents n (set m i (get_or m i 0 - 1))))) (int_mod (get_or (map pos (first_exponents n m)) i (pos 0)) * c * w (add_powers (map pos (first_exponents n m)) (minus_unit i)))
derivative_term w i n m c h =
    rw (power_of_taken i n m h)
    (⊎_elim
    (λ (positive : 0 < get_or m i 0).
    rw (lowered i n m h positive)
    (IsCongruent-mul (IsCongruent-mul (IsCongruent-sym (IsCongruent-mod (get_or m i 0))) (IsCongruent-refl c)) (IsCongruent-refl _)))
    (λ (none : get_or m i 0 ≤ 0).
    let e : get_or m i 0 ≡ 0 = omega arith in
    rw e (IsCongruent-from_eq (omega arith)))
    (cases_lt 0 (get_or m i 0)))

derivative_sums : (w : List ℤ → ℕ) (i n : ℕ) (f : Polynomial) → i < n
    → IsCongruent (weighted_sum w (laurent n (derivative i f))) (weighted_sum w (laurent_derivative i (laurent n f)))
derivative_sums w i n [] h = IsCongruent-refl 0
derivative_sums w i n (t ∷ f) h = IsCongruent-add (derivative_term w i n t.0 t.1 h) (derivative_sums w i n f h)

-- the derivative by one of the first n variables
pub laurent-derivative : (i n : ℕ) (f : Polynomial) → i < n → SameLaurent (laurent n (derivative i f)) (laurent_derivative i (laurent n f))
laurent-derivative i n f h = SameCoefficients-from_weights same_powers powers_decide _ _ (λ w. derivative_sums w i n f h)
