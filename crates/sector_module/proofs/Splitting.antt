-- The exponents of the variables before place n, and those of the variables from it on.
--     low_part n m, high_part n m     the exponents of m there, and zeros elsewhere
--     NoneFrom n m                    the exponents from place n on are zero
use Rattle.std.proofs.Common.{◌≡◌, ℕ, zero, suc, ◌+◌, ◌<◌, ◌≤◌, true, length, get_or, sum, List, [], ◌∷◌, ◌⊎◌, inl, inr, ⊎_elim, sym, refl, ap, subst, ◌∙◌, arith}
use Rattle.std.proofs.lemmas.Bool.{cases_lt}
use Rattle.std.proofs.lemmas.List.Sums.{sum_by-cons}
use Rattle.ibp_algebra.specs.Exponents.{add_exponents}
use Rattle.ibp_algebra.proofs.SumOfExponents.{sum-add_exponents}
use Rattle.mono_order.specs.Term.{divides_exponents}
use Rattle.mono_order.proofs.Terms.{divides-times}

abbrev pub low_part : ℕ → List ℕ → List ℕ
low_part n [] = []
low_part zero (x ∷ m) = 0 ∷ low_part zero m
low_part (suc n) (x ∷ m) = x ∷ low_part n m

abbrev pub high_part : ℕ → List ℕ → List ℕ
high_part n [] = []
high_part zero (x ∷ m) = x ∷ high_part zero m
high_part (suc n) (x ∷ m) = 0 ∷ high_part n m

abbrev pub NoneFrom : ℕ → List ℕ → Type 0
NoneFrom n [] = Unit {0}
NoneFrom zero (x ∷ m) = (x ≡ 0) × NoneFrom zero m
NoneFrom (suc n) (x ∷ m) = NoneFrom n m

pub both_parts : (n : ℕ) (m : List ℕ) → add_exponents (high_part n m) (low_part n m) ≡ m
both_parts n [] = refl
both_parts zero (x ∷ m) = let e : x + 0 ≡ x = omega arith in λ i. e i ∷ both_parts zero m i
both_parts (suc n) (x ∷ m) = let e : 0 + x ≡ x = omega arith in λ i. e i ∷ both_parts n m i

pub length-low : (n : ℕ) (m : List ℕ) → length (low_part n m) ≡ length m
length-low n [] = refl
length-low zero (x ∷ m) = omega (arith, length-low zero m)
length-low (suc n) (x ∷ m) = omega (arith, length-low n m)

pub length-high : (n : ℕ) (m : List ℕ) → length (high_part n m) ≡ length m
length-high n [] = refl
length-high zero (x ∷ m) = omega (arith, length-high zero m)
length-high (suc n) (x ∷ m) = omega (arith, length-high n m)

pub high-add : (n : ℕ) (m k : List ℕ) → length m ≡ length k → NoneFrom n k → high_part n (add_exponents m k) ≡ high_part n m
high-add n [] [] e h = refl
high-add n [] (y ∷ k) e h = absurd (omega arith)
high-add n (x ∷ m) [] e h = absurd (omega arith)
high-add zero (x ∷ m) (y ∷ k) e h = let none : y ≡ 0 = h.0 in let same : x + y ≡ x = omega arith in λ i. same i ∷ high-add zero m k (omega arith) h.1 i
high-add (suc n) (x ∷ m) (y ∷ k) e h = λ i. 0 ∷ high-add n m k (omega arith) h i

pub low-add : (n : ℕ) (m k : List ℕ) → length m ≡ length k → NoneFrom n k → low_part n (add_exponents m k) ≡ add_exponents (low_part n m) k
low-add n [] [] e h = refl
low-add n [] (y ∷ k) e h = absurd (omega arith)
low-add n (x ∷ m) [] e h = absurd (omega arith)
low-add zero (x ∷ m) (y ∷ k) e h = let none : y ≡ 0 = h.0 in let same : 0 ≡ 0 + y = omega arith in λ i. same i ∷ low-add zero m k (omega arith) h.1 i
low-add (suc n) (x ∷ m) (y ∷ k) e h = λ i. (x + y) ∷ low-add n m k (omega arith) h i

pub low-divides : (n : ℕ) (m : List ℕ) → divides_exponents (low_part n m) m ≡ true
low-divides n m =
    subst (λ (k : List ℕ). divides_exponents (low_part n m) k ≡ true) (both_parts n m)
    (divides-times (high_part n m) (low_part n m) (length-high n m ∙ sym (length-low n m)))

pub sum-parts : (n : ℕ) (m : List ℕ) → sum (high_part n m) + sum (low_part n m) ≡ sum m
sum-parts n m = sym (sum-add_exponents (high_part n m) (low_part n m)) ∙ ap sum (both_parts n m)

pub NoneFrom-low : (n : ℕ) (m : List ℕ) → NoneFrom n (low_part n m)
NoneFrom-low n [] = tt
NoneFrom-low zero (x ∷ m) = (refl, NoneFrom-low zero m)
NoneFrom-low (suc n) (x ∷ m) = NoneFrom-low n m

pub none_or_some : (n : ℕ) (m : List ℕ) → NoneFrom n m ⊎ (0 < sum (high_part n m))
none_or_some n [] = inl tt
none_or_some zero (x ∷ m) =
    ⊎_elim (λ (some : 0 < x). inr (omega (arith, sum_by-cons (λ (y : ℕ). y) x (high_part zero m))))
    (λ (none : x ≤ 0).
    ⊎_elim (λ (rest : NoneFrom zero m). let zero_here : x ≡ 0 = omega arith in inl (zero_here, rest))
    (λ (some : 0 < sum (high_part zero m)). inr (omega (arith, sum_by-cons (λ (y : ℕ). y) x (high_part zero m))))
    (none_or_some zero m))
    (cases_lt 0 x)
none_or_some (suc n) (x ∷ m) =
    ⊎_elim (λ (rest : NoneFrom n m). inl rest) (λ (some : 0 < sum (high_part n m)). inr (omega (arith, sum_by-cons (λ (y : ℕ). y) 0 (high_part n m)))) (none_or_some n m)

pub NoneFrom-from_places : (n : ℕ) (m : List ℕ) → ((i : ℕ) → n ≤ i → get_or m i 0 ≡ 0) → NoneFrom n m
NoneFrom-from_places n [] h = tt
NoneFrom-from_places zero (x ∷ m) h = (h 0 (omega arith), NoneFrom-from_places zero m (λ i le. h (suc i) (omega arith)))
NoneFrom-from_places (suc n) (x ∷ m) h = NoneFrom-from_places n m (λ i le. h (suc i) (omega arith))

pub places-from_NoneFrom : (n : ℕ) (m : List ℕ) → NoneFrom n m → (i : ℕ) → n ≤ i → get_or m i 0 ≡ 0
places-from_NoneFrom n [] h i le = refl
places-from_NoneFrom zero (x ∷ m) h zero le = h.0
places-from_NoneFrom (suc n) (x ∷ m) h zero le = absurd (omega arith)
places-from_NoneFrom zero (x ∷ m) h (suc i) le = places-from_NoneFrom zero m h.1 i (omega arith)
places-from_NoneFrom (suc n) (x ∷ m) h (suc i) le = places-from_NoneFrom n m h i (omega arith)
