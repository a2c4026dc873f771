-- The quick tests of a lead: where it divides, its variables are among those of the term, and its degree is not greater.
use Rattle.std.proofs.Common.{◌≡◌, ℕ, zero, suc, ◌+◌, ◌*◌, ◌/◌, ◌%◌, ◌^◌, ◌-◌, ◌<◌, ◌≤◌, true, false, List, [], ◌∷◌, sum, length, get_or, drop, sym, ap, ◌∙◌, arith}
use Rattle.std.specs.Prelude.{nat_eq, nat_le, min, bit_and}
use Rattle.std.specs.Int.{bit_at}
use Rattle.std.specs.Cmp.{unsigned_Decides}
use Rattle.std.proofs.Math.Seq.{drop-cons}
use Rattle.std.proofs.Math.Nat.{pow-succ'}
use Rattle.std.proofs.Math.Pow.{pow_mono}
use Rattle.std.proofs.lemmas.Bool.{leb-true}
use Rattle.std.proofs.lemmas.List.{length-drop}
use Rattle.std.proofs.lemmas.List.Sums.{sum_by-cons}
use Rattle.std.proofs.lemmas.Nat.Bits.{bit_at_lowest, bit_at-suc, bit_at-zero, bit_at_and, same_from_bits}
use Rattle.mono_order.specs.Term.{divides_exponents}
use Rattle.ibp_base.proofs.Tests.{both_true, is_false}
use Rattle.mono_order.proofs.Places.{divides-at}
use Rattle.fast_division.specs.LeadIndex.{support_mask}

lowest_bit : (x m : ℕ) → (min x 1 + 2 * m) % 2 ≡ min x 1
lowest_bit x m = omega arith

other_bits : (x m : ℕ) → (min x 1 + 2 * m) / 2 ≡ m
other_bits x m = omega arith

-- bit i says whether the exponent at place i is positive
support_bit : (xs : List ℕ) (i : ℕ) → bit_at (support_mask xs) i ≡ min (get_or xs i 0) 1
support_bit [] i = bit_at-zero i
support_bit (x ∷ xs) zero = bit_at_lowest (min x 1 + 2 * support_mask xs) ∙ lowest_bit x (support_mask xs)
support_bit (x ∷ xs) (suc i) = bit_at-suc (min x 1 + 2 * support_mask xs) i ∙ ap (λ n. bit_at n i) (other_bits x (support_mask xs)) ∙ support_bit xs i

shared_bit : (xs ys : List ℕ) → divides_exponents xs ys ≡ true → (i : ℕ) → bit_at (bit_and (support_mask xs) (support_mask ys)) i ≡ bit_at (support_mask xs) i
shared_bit xs ys e i =
    let both : bit_at (bit_and (support_mask xs) (support_mask ys)) i ≡ min (bit_at (support_mask xs) i) (bit_at (support_mask ys) i) = bit_at_and (support_mask xs) (support_mask ys) i in
    let less : get_or xs i 0 ≤ get_or ys i 0 = divides-at xs ys e i in
    let first : bit_at (support_mask xs) i ≡ min (get_or xs i 0) 1 = support_bit xs i in
    let second : bit_at (support_mask ys) i ≡ min (get_or ys i 0) 1 = support_bit ys i in
    omega (arith, both, less, first, second)

pub support_divides : (xs ys : List ℕ) → divides_exponents xs ys ≡ true → bit_and (support_mask xs) (support_mask ys) ≡ support_mask xs
support_divides xs ys e = same_from_bits (bit_and (support_mask xs) (support_mask ys)) (support_mask xs) (shared_bit xs ys e)

sum-cons : (x : ℕ) (xs : List ℕ) → sum (x ∷ xs) ≡ x + sum xs
sum-cons x xs = sum_by-cons (λ y. y) x xs

pub sum_divides : (xs ys : List ℕ) → divides_exponents xs ys ≡ true → sum xs ≤ sum ys
sum_divides [] ys e = omega arith
sum_divides (x ∷ xs) [] e =
    let parts = both_true (nat_eq x 0) (divides_exponents xs []) e in
    omega (arith, (unsigned_Decides x 0).0 parts.0, sum_divides xs [] parts.1, sum-cons x xs)
sum_divides (x ∷ xs) (y ∷ ys) e =
    let parts = both_true (nat_le x y) (divides_exponents xs ys) e in
    omega (arith, leb-true x y parts.0, sum_divides xs ys parts.1, sum-cons x xs, sum-cons y ys)

-- a lead that fails a quick test does not divide
pub mask_fails : (xs ys : List ℕ) (a b : ℕ) → a ≡ support_mask xs → b ≡ support_mask ys → ¬ (bit_and a b ≡ a) → divides_exponents xs ys ≡ false
mask_fails xs ys a b p q h = is_false _ (λ e. h ((λ i. bit_and (p i) (q i)) ∙ support_divides xs ys e ∙ sym p))

pub degree_fails : (xs ys : List ℕ) (a b : ℕ) → a ≡ sum xs → b ≡ sum ys → b < a → divides_exponents xs ys ≡ false
degree_fails xs ys a b p q h = is_false _ (λ e. absurd (omega (arith, p, q, h, sum_divides xs ys e)))

-- ---- the loop that reads the exponents

support_mask-lt : (xs : List ℕ) → support_mask xs < 2 ^ length xs
support_mask-lt [] = omega arith
support_mask-lt (x ∷ xs) = omega (arith, support_mask-lt xs, pow-succ' 2 (length xs))

pub support_small : (m : List ℕ) (i : ℕ) → 0 < i → length m ≤ 15 → support_mask (drop i m) < 2 ^ 14
support_small m i positive long =
    let few : length (drop i m) ≤ 14 = omega (arith, length-drop i m) in
    omega (arith, support_mask-lt (drop i m), pow_mono {i = length (drop i m)} {j = 14} few)

-- one exponent more, from the last one on
pub support_more : (m : List ℕ) (i x : ℕ) → 0 < i → i ≤ length m → x ≡ get_or m (i - 1) 0 → support_mask (drop (i - 1) m) ≡ 2 * support_mask (drop i m) + min x 1
support_more m zero x positive within is = absurd (omega arith)
support_more m (suc i) x positive within is =
    let e : suc i - 1 ≡ i = omega arith in
    let at : x ≡ get_or m i 0 = is ∙ ap (λ k. get_or m k 0) e in
    ap (λ k. support_mask (drop k m)) e ∙ ap support_mask (drop-cons m i 0 (omega arith)) ∙ omega (arith, at)
