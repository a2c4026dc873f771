-- Laurent polynomials in n variables: formal sums over lists of n integers.
--     coefficient_at_power f k  the coefficient at z^k
--     SameLaurent f g           each power product has the same coefficient in both
--     multiply_laurent f g      the product
--     power_product k           z^k
--     laurent_derivative i f    by the variable at place i: c z^k gives c*k_i z^(k - e_i)
--     laurent n f               the polynomial f, which has no variable beyond the first n
-- Source: textbook algebra.
use Rattle.std.specs.Prelude.{ℕ, zero, suc, ◌*◌, ℤ, pos, negsuc, ◌+ℤ◌, Bool, List, [], ◌∷◌, map, slice_index_or}
use Rattle.std.specs.Ordering.{int_eq}
use Rattle.std.specs.Cmp.Lexicographic.{pointwise}
use Rattle.ibp_field.specs.Arithmetic.{int_mod}
use Rattle.ibp_algebra.specs.FormalSum.{FormalSum, coefficient, SameCoefficients, product, map_keys}
use Rattle.ibp_algebra.specs.Exponents.{padded_sum, first_exponents}
use Rattle.ibp_algebra.specs.Polynomial.{Polynomial}

abbrev pub Laurent : Type 0
Laurent = FormalSum (List ℤ)

abbrev pub same_powers : List ℤ → List ℤ → Bool
same_powers = pointwise int_eq

abbrev pub coefficient_at_power : Laurent → List ℤ → ℕ
coefficient_at_power f k = coefficient same_powers f k

abbrev pub SameLaurent : Laurent → Laurent → Type 0
SameLaurent f g = SameCoefficients same_powers f g

-- the powers of a product of two power products
abbrev pub add_powers : List ℤ → List ℤ → List ℤ
add_powers = padded_sum ◌+ℤ◌

abbrev pub power_at : List ℤ → ℕ → ℤ
power_at k i = slice_index_or k i (pos 0)

abbrev pub multiply_laurent : Laurent → Laurent → Laurent
multiply_laurent f g = product add_powers f g

abbrev pub power_product : List ℤ → Laurent
power_product k = (k, 1) ∷ []

-- the powers that lower the variable at place i by one
abbrev pub minus_unit : ℕ → List ℤ
minus_unit zero = negsuc 0 ∷ []
minus_unit (suc i) = pos 0 ∷ minus_unit i

abbrev pub laurent_derivative : ℕ → Laurent → Laurent
laurent_derivative i f = map (λ term. (add_powers term.0 (minus_unit i), int_mod (power_at term.0 i) * term.1)) f

abbrev pub laurent : ℕ → Polynomial → Laurent
laurent n f = map_keys (λ m. map pos (first_exponents n m)) f
