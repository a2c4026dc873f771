-- Polynomials: formal sums over lists of exponents, which have no upper bound. The variables have the
-- places from 0 on in a list of exponents.
--     coefficient_at f m        the coefficient at the monomial m
--     SamePolynomial f g        each monomial has the same coefficient in both
--     f ++ g, scale c f         the sum and the multiple, as for each formal sum
--     multiply f g              the product: c z^m times d z^k is c*d z^(m + k)
--     derivative i f            by the variable at place i: c z^m gives c*m_i z^(m - e_i)
--     IsDivisibleBy i f         each monomial of f has a positive exponent at place i
--     derivative_along a p      the sum over i of a_i times the derivative of p by the variable at place i
--     set_zero i f              the terms without the variable at place i
--     permute to f              each variable replaced by the one whose number, from 1, `to` has at its place
--     degree_of f               the greatest total degree of a term, 0 where there is none
-- Source: textbook algebra; the degree and the products as in Ideals, Varieties, and Algorithms of Cox, Little and O'Shea.
use Rattle.std.specs.Prelude.{◌≢◌, ℕ, suc, ◌-◌, ◌*◌, ◌<◌, max, nat_lt, List, [], ◌∷◌, ◌++◌, map, sum, slice_index, slice_set}
use Rattle.ibp_algebra.specs.FormalSum.{FormalSum, coefficient, SameCoefficients, map_keys, strike, product}
use Rattle.ibp_algebra.specs.Exponents.{add_exponents, same_exponents, permute_exponents}

abbrev pub Polynomial : Type 0
Polynomial = FormalSum (List ℕ)

abbrev pub coefficient_at : Polynomial → List ℕ → ℕ
coefficient_at f m = coefficient same_exponents f m

abbrev pub SamePolynomial : Polynomial → Polynomial → Type 0
SamePolynomial f g = SameCoefficients same_exponents f g

abbrev pub multiply : Polynomial → Polynomial → Polynomial
multiply f g = product add_exponents f g

abbrev pub derivative : ℕ → Polynomial → Polynomial
derivative i f = map (λ term. (slice_set term.0 i (slice_index term.0 i - 1), slice_index term.0 i * term.1)) f

abbrev pub IsDivisibleBy : ℕ → Polynomial → Type 0
IsDivisibleBy i f = (m : List ℕ) → coefficient_at f m ≢ 0 → 0 < slice_index m i

abbrev pub derivative_along_from : ℕ → List Polynomial → Polynomial → Polynomial
derivative_along_from i [] p = []
derivative_along_from i (a ∷ others) p = multiply a (derivative i p) ++ derivative_along_from (suc i) others p

abbrev pub derivative_along : List Polynomial → Polynomial → Polynomial
derivative_along a p = derivative_along_from 0 a p

abbrev pub set_zero : ℕ → Polynomial → Polynomial
set_zero i f = strike (λ m. nat_lt 0 (slice_index m i)) f

abbrev pub permute : List ℕ → Polynomial → Polynomial
permute to f = map_keys (permute_exponents to) f

abbrev pub degree_of : Polynomial → ℕ
degree_of [] = 0
degree_of (term ∷ terms) = max (sum term.0) (degree_of terms)
