-- The loops over the exponents of two power products, place by place.
use Rattle.std.proofs.Common.{◌≡◌, ℕ, zero, suc, ◌+◌, ◌-◌, ◌<◌, ◌≤◌, true, false, List, [], ◌∷◌, sum, length, get_or, sym, refl, ◌∙◌, arith, zero-add, add-zero}
use Rattle.std.specs.Prelude.{nat_eq, nat_le, max}
use Rattle.std.specs.Cmp.{unsigned_Decides}
use Rattle.std.proofs.lemmas.Bool.{leb-true, le-leb}
use Rattle.std.proofs.lemmas.Grind.{same_number_lists}
use Rattle.ibp_base.proofs.Tests.{is_false, both_true, and_true}
use Rattle.ibp_algebra.specs.Exponents.{add_exponents}
use Rattle.ibp_algebra.proofs.ExponentLaws.{length-padded_sum, get_or-padded_sum}
use Rattle.mono_order.specs.Term.{divides_exponents, quotient_exponents, lcm_exponents}
use Rattle.mono_order.proofs.Terms.{length-quotient}
use Rattle.ibp_algebra.proofs.SumOfExponents.{sum-cons}

-- the places before i have been combined by `op` with those of b, and the others are those of a
pub record Combined (op : ℕ → ℕ → ℕ) (n : ℕ) (a b xs : List ℕ) (i : ℕ) : Type 0 where
  pub long : length xs ≡ n
  pub done : (k : ℕ) → k < i → get_or xs k 0 ≡ op (get_or a k 0) (get_or b k 0)
  pub rest : (k : ℕ) → i ≤ k → get_or xs k 0 ≡ get_or a k 0

-- the list that has the combined exponents at each place
combined_whole : (op : ℕ → ℕ → ℕ) (n i : ℕ) (a b xs whole : List ℕ) → n ≤ i → Combined op n a b xs i → length whole ≡ n
    → ((k : ℕ) → get_or whole k 0 ≡ op (get_or a k 0) (get_or b k 0)) → xs ≡ whole
combined_whole op n i a b xs whole end h long at =
    same_number_lists xs whole (omega (arith, long, h.long)) (λ k within. h.done k (omega (arith, h.long)) ∙ sym (at k))

pub sum_whole : (n i : ℕ) (a b xs : List ℕ) → length a ≡ n → length b ≡ n → n ≤ i → Combined ◌+◌ n a b xs i → xs ≡ add_exponents a b
sum_whole n i a b xs p q end h =
    combined_whole ◌+◌ n i a b xs (add_exponents a b) end h (length-padded_sum ◌+◌ n a b p q) (get_or-padded_sum ◌+◌ 0 zero-add add-zero a b)

max_zero : (x : ℕ) → max x 0 ≡ x
max_zero x = omega arith

zero_max : (x : ℕ) → max 0 x ≡ x
zero_max x = omega arith

pub lcm_whole : (n i : ℕ) (a b xs : List ℕ) → length a ≡ n → length b ≡ n → n ≤ i → Combined max n a b xs i → xs ≡ lcm_exponents a b
lcm_whole n i a b xs p q end h =
    combined_whole max n i a b xs (lcm_exponents a b) end h (length-padded_sum max n a b p q) (get_or-padded_sum max 0 zero_max max_zero a b)

get_or-quotient : (a b : List ℕ) (k : ℕ) → get_or (quotient_exponents a b) k 0 ≡ get_or a k 0 - get_or b k 0
get_or-quotient [] b k = omega arith
get_or-quotient (x ∷ a) [] k = omega arith
get_or-quotient (x ∷ a) (y ∷ b) zero = refl
get_or-quotient (x ∷ a) (y ∷ b) (suc k) = get_or-quotient a b k

pub quotient_whole : (n i : ℕ) (a b xs : List ℕ) → length a ≡ n → length b ≡ n → n ≤ i → Combined ◌-◌ n a b xs i → xs ≡ quotient_exponents a b
quotient_whole n i a b xs p q end h =
    combined_whole ◌-◌ n i a b xs (quotient_exponents a b) end h (length-quotient n b a q p) (get_or-quotient a b)

-- no exponent of a divisor is greater
pub divides-at : (xs ys : List ℕ) → divides_exponents xs ys ≡ true → (k : ℕ) → get_or xs k 0 ≤ get_or ys k 0
divides-at [] ys e k = omega arith
divides-at (x ∷ xs) [] e zero = omega (arith, (unsigned_Decides x 0).0 (both_true (nat_eq x 0) (divides_exponents xs []) e).0)
divides-at (x ∷ xs) [] e (suc k) = divides-at xs [] (both_true (nat_eq x 0) (divides_exponents xs []) e).1 k
divides-at (x ∷ xs) (y ∷ ys) e zero = leb-true x y (both_true (nat_le x y) (divides_exponents xs ys) e).0
divides-at (x ∷ xs) (y ∷ ys) e (suc k) = divides-at xs ys (both_true (nat_le x y) (divides_exponents xs ys) e).1 k

-- and a list of which none is greater divides
pub divides_from_places : (n : ℕ) (xs ys : List ℕ) → length xs ≡ n → length ys ≡ n → ((k : ℕ) → k < n → get_or xs k 0 ≤ get_or ys k 0) → divides_exponents xs ys ≡ true
divides_from_places n [] ys p q h = refl
divides_from_places n (x ∷ xs) [] p q h = absurd (omega arith)
divides_from_places zero (x ∷ xs) (y ∷ ys) p q h = absurd (omega arith)
divides_from_places (suc n) (x ∷ xs) (y ∷ ys) p q h =
    and_true _ _ (le-leb x y (h 0 (omega arith))) (divides_from_places n xs ys (omega arith) (omega arith) (λ k l. h (suc k) (omega arith)))

-- a greater exponent at one place is enough not to divide
pub divides_not : (xs ys : List ℕ) (k : ℕ) → get_or ys k 0 < get_or xs k 0 → divides_exponents xs ys ≡ false
divides_not xs ys k more = is_false _ (λ e. absurd (omega (arith, more, divides-at xs ys e k)))

-- the degree of a quotient is the difference of the degrees
pub sum-quotient : (n : ℕ) (xs ys : List ℕ) → length xs ≡ n → length ys ≡ n → divides_exponents xs ys ≡ true → sum (quotient_exponents ys xs) + sum xs ≡ sum ys
sum-quotient n [] [] p q e = refl
sum-quotient n [] (y ∷ ys) p q e = absurd (omega arith)
sum-quotient n (x ∷ xs) [] p q e = absurd (omega arith)
sum-quotient zero (x ∷ xs) (y ∷ ys) p q e = absurd (omega arith)
sum-quotient (suc n) (x ∷ xs) (y ∷ ys) p q e =
    let parts = both_true (nat_le x y) (divides_exponents xs ys) e in
    let less : x ≤ y = leb-true x y parts.0 in
    omega (arith, less, sum-quotient n xs ys (omega arith) (omega arith) parts.1, sum-cons x xs, sum-cons y ys, sum-cons (y - x) (quotient_exponents ys xs))
