-- Power products and module terms. A power product is a list of exponents; a term is a component and a power
-- product. Exponents have no upper bound.
--     divides_exponents a b       no exponent of a is above that of b
--     quotient_exponents b a      the exponents of b minus those of a
--     lcm_exponents a b           the greater of each pair of exponents
--     multiply_term m t           the term t times the power product m
--     lcm_term s t                their least common multiple, where they have one component
--     divides s t                 the terms have one component, and the exponents of s divide those of t
--     IsTerm variables t          the component is below 256, and there is an exponent for each variable
-- Source: monomials of a free module as in Using Algebraic Geometry of Cox, Little and O'Shea.
use Rattle.std.specs.Prelude.{◌≡◌, ℕ, ◌-◌, ◌<◌, Bool, true, ◌&&◌, nat_eq, nat_le, max, length, List, [], ◌∷◌}
use Rattle.ibp_algebra.specs.Exponents.{padded_sum, add_exponents, same_exponents}

abbrev pub divides_exponents : List ℕ → List ℕ → Bool
divides_exponents [] ys = true
divides_exponents (x ∷ xs) [] = nat_eq x 0 && divides_exponents xs []
divides_exponents (x ∷ xs) (y ∷ ys) = nat_le x y && divides_exponents xs ys

abbrev pub quotient_exponents : List ℕ → List ℕ → List ℕ
quotient_exponents [] xs = []
quotient_exponents (y ∷ ys) [] = y ∷ ys
quotient_exponents (y ∷ ys) (x ∷ xs) = (y - x) ∷ quotient_exponents ys xs

abbrev pub lcm_exponents : List ℕ → List ℕ → List ℕ
lcm_exponents = padded_sum max

abbrev pub Term : Type 0
Term = ℕ × List ℕ

abbrev pub same_term : Term → Term → Bool
same_term s t = nat_eq s.0 t.0 && same_exponents s.1 t.1

abbrev pub multiply_term : List ℕ → Term → Term
multiply_term m t = (t.0, add_exponents m t.1)

abbrev pub divides : Term → Term → Bool
divides s t = nat_eq s.0 t.0 && divides_exponents s.1 t.1

pub record IsTerm (variables : ℕ) (t : Term) : Type 0 where
  pub component : t.0 < 256
  pub exponents : length t.1 ≡ variables

-- the least common multiple of two terms of one component
abbrev pub lcm_term : Term → Term → Term
lcm_term s t = (s.0, lcm_exponents s.1 t.1)
