-- The variables in their own places are the identity.
use Rattle.std.proofs.Common.{◌≡◌, ℕ, zero, suc, ◌+◌, ◌≤◌, Bool, true, false, ◌||◌, nat_eq, List, [], ◌∷◌, take, refl, sym, ap, ◌∙◌, arith}
use Rattle.std.specs.Cmp.Lexicographic.{pointwise}
use Rattle.mono_order.specs.declared.limits.TheConstants.{VARIABLES}
use Rattle.family.specs.Permutation.{numbers_from, identity, is_among}

abbrev pub variables_in_place : List ℕ
variables_in_place = 1 ∷ 2 ∷ 3 ∷ 4 ∷ 5 ∷ 6 ∷ 7 ∷ 8 ∷ 9 ∷ 10 ∷ 11 ∷ 12 ∷ []

first_numbers : (n m i : ℕ) → n ≤ m → take n (numbers_from i m) ≡ numbers_from i n
first_numbers zero m i few = refl
first_numbers (suc n) zero i few = absurd (omega (arith, few))
first_numbers (suc n) (suc m) i few = ap (λ ns. i ∷ ns) (first_numbers n m (i + 1) (omega (arith, few)))

pub in_place : (n : ℕ) → n ≤ VARIABLES → take n variables_in_place ≡ identity n
in_place n few = first_numbers n 12 1 few

-- a list that is the identity is among it and others, and one that is not is among them where it is among the others
pub first_or_others : (n : ℕ) (entries : List (List ℕ)) (numbers : List ℕ) (is : Bool) → n ≤ VARIABLES → is ≡ pointwise nat_eq numbers (take n variables_in_place) → is_among (identity n ∷ entries) numbers ≡ (is || is_among entries numbers)
first_or_others n entries numbers is few same = ap (λ b. b || is_among entries numbers) (ap (pointwise nat_eq numbers) (sym (in_place n few)) ∙ sym same)
