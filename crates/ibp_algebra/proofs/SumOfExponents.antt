-- The degree of a product is the sum of the degrees, and of a changed exponent likewise.
use Rattle.std.proofs.Common.{◌≡◌, ℕ, zero, suc, ◌+◌, ◌-◌, ◌<◌, ◌≤◌, ⊎_elim, List, [], ◌∷◌, sum, length, get_or, set, arith}
use Rattle.std.proofs.lemmas.Bool.{cases_lt}
use Rattle.std.proofs.lemmas.List.{set_past}
use Rattle.std.proofs.lemmas.List.Sums.{sum_by-cons}
use Rattle.ibp_algebra.specs.Exponents.{add_exponents}

pub sum-cons : (x : ℕ) (xs : List ℕ) → sum (x ∷ xs) ≡ x + sum xs
sum-cons x xs = sum_by-cons (λ y. y) x xs

pub sum-add_exponents : (a b : List ℕ) → sum (add_exponents a b) ≡ sum a + sum b
sum-add_exponents [] b = omega arith
sum-add_exponents (x ∷ a) [] = omega arith
sum-add_exponents (x ∷ a) (y ∷ b) = omega (arith, sum-cons (x + y) (add_exponents a b), sum-cons x a, sum-cons y b, sum-add_exponents a b)

pub get_or-le-sum : (a : List ℕ) (i : ℕ) → get_or a i 0 ≤ sum a
get_or-le-sum [] i = omega arith
get_or-le-sum (x ∷ a) zero = omega (arith, sum-cons x a)
get_or-le-sum (x ∷ a) (suc i) = omega (arith, sum-cons x a, get_or-le-sum a i)

pub sum-set : (a : List ℕ) (i y : ℕ) → i < length a → sum (set a i y) + get_or a i 0 ≡ sum a + y
sum-set [] i y h = absurd (omega arith)
sum-set (x ∷ a) zero y h = omega (arith, sum-cons x a, sum-cons y a)
sum-set (x ∷ a) (suc i) y h = omega (arith, sum-cons x a, sum-cons x (set a i y), sum-set a i y (omega arith))

-- an exponent that is one less
pub one_less : (i : ℕ) (m : List ℕ) → sum (set m i (get_or m i 0 - 1)) ≤ sum m
one_less i m =
    ⊎_elim (λ (within : i < length m). omega (arith, sum-set m i (get_or m i 0 - 1) within)) (λ (past : length m ≤ i). rw (set_past m i (get_or m i 0 - 1) past) (omega arith))
    (cases_lt i (length m))
