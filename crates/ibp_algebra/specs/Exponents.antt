-- Lists of exponents. A list stands for a power product: its entry at place i is the exponent of the
-- variable at place i, and a variable past its end has the exponent zero.
-- Source: monomials and the graded reverse lexicographic order as in Ideals, Varieties, and Algorithms of Cox, Little and O'Shea.
use Rattle.std.specs.Prelude.{ℕ, zero, suc, ◌+◌, ◌-◌, ◌*◌, ◌^◌, Bool, nat_eq, sum, reverse, replicate, length, List, [], ◌∷◌}
use Rattle.std.specs.Cmp.Lexicographic.{pointwise, slice_cmp}
use Rattle.std.specs.Ordering.{nat_cmp, ordering_then}
use Rattle.std.specs.declared.cmp.Ordering.{Ordering}

-- the sum place by place, where a shorter list is continued by zeros
abbrev pub padded_sum : {X : Type 0} → (X → X → X) → List X → List X → List X
padded_sum plus [] ys = ys
padded_sum plus (x ∷ xs) [] = x ∷ xs
padded_sum plus (x ∷ xs) (y ∷ ys) = plus x y ∷ padded_sum plus xs ys

-- the exponents of a product of two power products
abbrev pub add_exponents : List ℕ → List ℕ → List ℕ
add_exponents = padded_sum ◌+◌

-- the exponents of the first n variables
abbrev pub first_exponents : ℕ → List ℕ → List ℕ
first_exponents zero m = []
first_exponents (suc n) [] = 0 ∷ first_exponents n []
first_exponents (suc n) (x ∷ m) = x ∷ first_exponents n m

abbrev pub same_exponents : List ℕ → List ℕ → Bool
same_exponents = pointwise nat_eq

-- the degree reverse lexicographic order: the greater degree is greater, and at equal degree the smaller
-- exponent at the last variable where the two differ
abbrev pub deg_rev_lex : List ℕ → List ℕ → Ordering
deg_rev_lex a b = ordering_then (nat_cmp (sum a) (sum b)) (slice_cmp nat_cmp (reverse b) (reverse a))

-- the exponents of a power of the variable at a place
abbrev pub power_exponents : ℕ → ℕ → List ℕ
power_exponents zero exponent = exponent ∷ []
power_exponents (suc place) exponent = 0 ∷ power_exponents place exponent

-- the product of powers of the variables with these numbers, which are counted from 1
abbrev pub product_of_powers : List ℕ → List ℕ → List ℕ
product_of_powers [] m = []
product_of_powers (number ∷ numbers) [] = []
product_of_powers (number ∷ numbers) (exponent ∷ m) = add_exponents (power_exponents (number - 1) exponent) (product_of_powers numbers m)

-- each variable replaced by the one whose number the list has at its place
abbrev pub permute_exponents : List ℕ → List ℕ → List ℕ
permute_exponents to m = add_exponents (replicate (length m) 0) (product_of_powers to m)

-- The exponents of a power product of this degree as digits, where the last variable counts most, and a
-- greater exponent less.
abbrev pub exponent_digits : ℕ → List ℕ → ℕ
exponent_digits degree [] = 0
exponent_digits degree (x ∷ xs) = (degree - x) + (degree + 1) * exponent_digits degree xs

-- a whole number that is greater for the greater of two power products in as many variables
abbrev pub monomial_height : List ℕ → ℕ
monomial_height m = sum m * (sum m + 1) ^ length m + exponent_digits (sum m) m
