-- The texts of values, as lists of bytes.
--     residue_text value     its decimal number
--     poly_text p            1*z1^2*z3 + 5, or 0
--     integral_text powers   [2,-1]
--     row_text row           3*I[2,1] 5*I[1,1], or 0
-- Source: formats of our own, which write polynomials and integrals as they are printed in the field.
use Rattle.std.specs.Prelude.{ℕ, suc, ℤ, List, [], ◌∷◌, ◌++◌, ◌==◌, codes, decimal, if◌then◌else◌}
use Rattle.std.specs.Fmt.{signed_decimal}
use Rattle.std.specs.List.{flat_map}
use Rattle.ibp_algebra.specs.Polynomial.{Polynomial}

-- the texts of the elements, with a separator between each two
abbrev pub joined : {A : Type 0} → (A → List ℕ) → List ℕ → List A → List ℕ
joined text separator [] = []
joined text separator (x ∷ xs) = text x ++ flat_map (λ y. separator ++ text y) xs

-- the texts of the elements, or 0 where there are none
abbrev pub sum_text : {A : Type 0} → (A → List ℕ) → List ℕ → List A → List ℕ
sum_text text separator [] = codes "0"
sum_text text separator (x ∷ xs) = joined text separator (x ∷ xs)

abbrev pub residue_text : ℕ → List ℕ
residue_text value = decimal value

-- a power of the variable z_i
abbrev pub power_text : ℕ → ℕ → List ℕ
power_text i exponent =
    if exponent == 0 then [] else if exponent == 1 then codes "*z" ++ decimal i else codes "*z" ++ decimal i ++ codes "^" ++ decimal exponent

-- the powers of the variables from z_i on
abbrev pub powers_text : ℕ → List ℕ → List ℕ
powers_text i [] = []
powers_text i (exponent ∷ exponents) = power_text i exponent ++ powers_text (suc i) exponents

abbrev pub monomial_text : List ℕ → List ℕ
monomial_text exponents = powers_text 1 exponents

abbrev pub poly_term_text : List ℕ × ℕ → List ℕ
poly_term_text term = residue_text term.1 ++ monomial_text term.0

-- the terms in their order
abbrev pub poly_text : Polynomial → List ℕ
poly_text p = sum_text poly_term_text (codes " + ") p

abbrev pub integral_text : List ℤ → List ℕ
integral_text powers = codes "[" ++ joined signed_decimal (codes ",") powers ++ codes "]"

abbrev pub row_term_text : List ℤ × ℕ → List ℕ
row_term_text term = residue_text term.1 ++ codes "*I" ++ integral_text term.0

-- the terms in their order
abbrev pub row_text : List (List ℤ × ℕ) → List ℕ
row_text row = sum_text row_term_text (codes " ") row
