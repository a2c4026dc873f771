-- The places of numbers in a list that strictly ascends.
use Rattle.std.proofs.Common.{◌≡◌, ◌≢◌, ℕ, zero, suc, ◌+◌, ◌-◌, ◌<◌, ◌≤◌, Bool, true, false, cond, ltb, List, [], ◌∷◌, length, get_or, refl, sym, ◌∙◌, ap, subst, arith}
use Rattle.std.specs.Prelude.{nat_lt, count_by, Contains}
use Rattle.std.specs.List.{AllWithin}
use Rattle.std.specs.List.Sorted.{IsStrictlyIncreasing, IsPartitionedBy}
use Rattle.std.proofs.lemmas.List.Sums.{sum_by-cons}
use Rattle.std.proofs.lemmas.List.Elements.{Contains-get_or}
use Rattle.std.proofs.lemmas.Bool.{ltb-true, lt-ltb, le-ltb}
use Rattle.std.proofs.lemmas.List.{get_or_default}

-- numbers that ascend do so over any distance
pub rises : (xs : List ℕ) → IsStrictlyIncreasing xs → (i n : ℕ) → i + n < length xs → get_or xs i 0 + n ≤ get_or xs (i + n) 0
rises xs up i zero inside = let e : i + 0 ≡ i = omega arith in rw e (omega arith)
rises xs up i (suc n) inside =
    let below : get_or xs i 0 + n ≤ get_or xs (i + n) 0 = rises xs up i n (omega arith) in
    let step : get_or xs (i + n) 0 < get_or xs (i + n + 1) 0 = up (i + n) (omega arith) in
    let e : i + suc n ≡ i + n + 1 = omega arith in
    rw e (omega arith)

-- they are at most as many as the numbers below a bound
pub few_below : (xs : List ℕ) (bound : ℕ) → IsStrictlyIncreasing xs → ((x : ℕ) → Contains xs x → x < bound) → length xs ≤ bound
few_below [] bound up below = omega arith
few_below (x ∷ xs) bound up below =
    let last : get_or (x ∷ xs) 0 0 + length xs ≤ get_or (x ∷ xs) (0 + length xs) 0 = rises (x ∷ xs) up 0 (length xs) (omega arith) in
    let under : get_or (x ∷ xs) (0 + length xs) 0 < bound = below _ (Contains-get_or (x ∷ xs) (0 + length xs) 0 (omega arith)) in
    omega arith

-- what is below a number stands before what isn't
pub partitioned : (xs : List ℕ) (place : ℕ) → IsStrictlyIncreasing xs → IsPartitionedBy (λ other. nat_lt other place) xs
partitioned xs place up i j d ordered inside under =
    let far : i + (j - i) ≡ j = omega arith in
    let last : get_or xs j 0 < place = ltb-true _ _ (ap (λ v. ltb v place) (get_or_default xs j 0 d inside) ∙ under) in
    let low : get_or xs i 0 + (j - i) ≤ get_or xs j 0 = subst (λ k. get_or xs i 0 + (j - i) ≤ get_or xs k 0) far (rises xs up i (j - i) (omega arith)) in
    ap (λ v. ltb v place) (get_or_default xs i d 0 (omega arith)) ∙ lt-ltb _ _ (omega arith)

-- so many pass a test that all pass up to a place, and none from it on
pub count_at : {X : Type 0} (p : X → Bool) (xs : List X) (i : ℕ) → i ≤ length xs → AllWithin (λ x. p x ≡ true) xs 0 i → AllWithin (λ x. p x ≡ false) xs i (length xs) → count_by p xs ≡ i
count_at p [] zero within all none = refl
count_at p [] (suc i) within all none = absurd (omega arith)
count_at p (x ∷ xs) zero within all none =
    let rest : count_by p xs ≡ 0 = count_at p xs zero (omega arith) (λ k d low high. absurd (omega arith)) (λ k d low high. none (suc k) d (omega arith) (omega arith)) in
    let here : p x ≡ false = none 0 x (omega arith) (omega arith) in
    sum_by-cons (λ y. cond (p y) 1 0) x xs ∙ ap (λ b. cond b 1 0 + count_by p xs) here ∙ (let e : 0 + count_by p xs ≡ 0 = omega (arith, rest) in e)
count_at p (x ∷ xs) (suc i) within all none =
    let rest : count_by p xs ≡ i = count_at p xs i (omega arith) (λ k d low high. all (suc k) d (omega arith) (omega arith)) (λ k d low high. none (suc k) d (omega arith) (omega arith)) in
    let here : p x ≡ true = all 0 x (omega arith) (omega arith) in
    sum_by-cons (λ y. cond (p y) 1 0) x xs ∙ ap (λ b. cond b 1 0 + count_by p xs) here ∙ (let e : 1 + count_by p xs ≡ suc i = omega (arith, rest) in e)

-- how many of the numbers are below this one: its place, where it is one of them
abbrev pub place_of : List ℕ → ℕ → ℕ
place_of xs x = count_by (λ other. nat_lt other x) xs

pub place_of-own : (xs : List ℕ) (i : ℕ) → IsStrictlyIncreasing xs → i < length xs → place_of xs (get_or xs i 0) ≡ i
place_of-own xs i up within =
    count_at (λ other. nat_lt other (get_or xs i 0)) xs i (omega arith)
    (λ k d low high.
    let far : k + (i - k) ≡ i = omega arith in
    let rise : get_or xs k 0 + (i - k) ≤ get_or xs i 0 = subst (λ j. get_or xs k 0 + (i - k) ≤ get_or xs j 0) far (rises xs up k (i - k) (omega arith)) in
    ap (λ v. ltb v (get_or xs i 0)) (get_or_default xs k d 0 (omega arith)) ∙ lt-ltb _ _ (omega arith))
    (λ k d low high.
    let far : i + (k - i) ≡ k = omega arith in
    let rise : get_or xs i 0 + (k - i) ≤ get_or xs k 0 = subst (λ j. get_or xs i 0 + (k - i) ≤ get_or xs j 0) far (rises xs up i (k - i) (omega arith)) in
    ap (λ v. ltb v (get_or xs i 0)) (get_or_default xs k d 0 (omega arith)) ∙ le-ltb _ _ (omega arith))

-- a number that is one of them stands at its place
pub at_place_of : (xs : List ℕ) (x : ℕ) → IsStrictlyIncreasing xs → Contains xs x → (place_of xs x < length xs) × (get_or xs (place_of xs x) 0 ≡ x)
at_place_of xs x up (i, within, is) =
    let here : get_or xs i 0 ≡ x = get_or_default xs i 0 x within ∙ is in
    let place : place_of xs x ≡ i = ap (place_of xs) (sym here) ∙ place_of-own xs i up within in
    (subst (λ k. k < length xs) (sym place) within, ap (λ k. get_or xs k 0) place ∙ here)

-- different places have different numbers
pub places_apart : (xs : List ℕ) (i j : ℕ) → IsStrictlyIncreasing xs → i < length xs → j < length xs → i ≢ j → get_or xs i 0 ≢ get_or xs j 0
places_apart xs i j up within inside apart same = apart (sym (place_of-own xs i up within) ∙ ap (place_of xs) same ∙ place_of-own xs j up inside)
