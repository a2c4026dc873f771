-- The parts of a cut family are within the limits of families.
use Rattle.std.proofs.Common.{◌≡◌, ℕ, zero, suc, ◌+◌, ◌-◌, ◌*◌, ◌/◌, ◌%◌, ◌^◌, ◌<◌, ◌≤◌, Bool, true, false, cond, List, [], ◌∷◌, ◌++◌, length, map, filter, replicate, refl, sym, ◌∙◌, subst, arith, length-append}
use Rattle.std.specs.Prelude.{ℤ, ◌≤ℤ◌, count_ones, slice_index_or}
use Rattle.std.proofs.Math.ListN.{length-replicate}
use Rattle.std.specs.List.{All, AllByRecursion, IsDistinct}
use Rattle.std.specs.Int.Count.{ones_step, ones-le}
use Rattle.std.proofs.lemmas.Bool.Decides.{nat_tests}
use Rattle.ibp_algebra.specs.FormalSum.{FormalSum, AllKeys, map_keys, strike}
use Rattle.ibp_algebra.specs.Laurent.{power_at}
use Rattle.mono_order.specs.declared.limits.TheConstants.{VARIABLES}
use Rattle.sector_lattice.proofs.Digits.{half_below}
use Rattle.family.specs.declared.limits.TheConstants.{LEAST_POWER, GREATEST_POWER}
use Rattle.family.specs.Shapes.{HasVariables, ArePowers}
use Rattle.cut_family.specs.Places.{is_cut, outside, without_cut}
use Rattle.cut_family.specs.Cutting.{cut_exponents}
use Rattle.cut_family.proofs.PlaceLaws.{doubled, outside_length, outside_shorter}

-- ---- keys and lengths

pub keys_moved : {K L : Type 0} (P : K → Type 0) (Q : L → Type 0) (move : K → L) → ((k : K) → P k → Q (move k)) → (f : FormalSum K) → AllKeys P f → AllKeys Q (map_keys move f)
keys_moved P Q move each [] h = tt
keys_moved P Q move each (t ∷ f) h = (each t.0 h.0, keys_moved P Q move each f h.1)

pub strike_length : {K : Type 0} (test : K → Bool) (f : FormalSum K) → length (strike test f) ≤ length f
strike_length test [] = omega arith
strike_length test (t ∷ f) =
    elim (test t.0) as (λ b. length (cond b (strike test f) (t ∷ strike test f)) ≤ suc (length f)) [
      | true ↦ omega (arith, strike_length test f)
      | false ↦ omega (arith, strike_length test f)
    ]

pub filter_length : {X : Type 0} (p : X → Bool) (xs : List X) → length (filter p xs) ≤ length xs
filter_length p [] = omega arith
filter_length p (x ∷ xs) =
    elim (p x) as (λ b. length (cond b (x ∷ filter p xs) (filter p xs)) ≤ suc (length xs)) [
      | true ↦ omega (arith, filter_length p xs)
      | false ↦ omega (arith, filter_length p xs)
    ]

-- ---- each and distinct

pub by_recursion : {X : Type 0} (P : X → Type 0) (xs : List X) → All P xs → AllByRecursion P xs
by_recursion P [] h = tt
by_recursion P (x ∷ xs) h = (h 0 x (omega arith), by_recursion P xs (λ k d below. h (suc k) d (omega (arith, below))))

pub each_moved : {X Y : Type 0} (P : X → Type 0) (Q : Y → Type 0) (test : X → Bool) (move : X → Y) → ((x : X) → P x → Q (move x)) → (xs : List X) → AllByRecursion P xs → AllByRecursion Q (map move (filter test xs))
each_moved P Q test move each [] h = tt
each_moved P Q test move each (x ∷ xs) h =
    elim (test x) as (λ b. AllByRecursion Q (map move (cond b (x ∷ filter test xs) (filter test xs)))) [
      | true ↦ (each x h.0, each_moved P Q test move each xs h.1)
      | false ↦ each_moved P Q test move each xs h.1
    ]

all_apart : {X Y : Type 0} (P : X → Type 0) (same : X → X → Bool) (other : Y → Y → Bool) (test : X → Bool) (move : X → Y)
    → ((a b : X) → P a → P b → test a ≡ true → test b ≡ true → same a b ≡ false → other (move a) (move b) ≡ false)
    → (a : X) → P a → test a ≡ true → (xs : List X) → AllByRecursion P xs → AllByRecursion (λ y. same a y ≡ false) xs → AllByRecursion (λ y. other (move a) y ≡ false) (map move (filter test xs))
all_apart P same other test move apart a p t [] each h = tt
all_apart P same other test move apart a p t (x ∷ xs) each h =
    let rest = all_apart P same other test move apart a p t xs each.1 h.1 in
    elim (test x) as (λ b. test x ≡ b → AllByRecursion (λ y. other (move a) y ≡ false) (map move (cond b (x ∷ filter test xs) (filter test xs)))) [
      | true ↦ λ e. (apart a x p each.0 t e h.0, rest)
      | false ↦ λ e. rest
    ] refl

pub distinct_moved : {X Y : Type 0} (P : X → Type 0) (same : X → X → Bool) (other : Y → Y → Bool) (test : X → Bool) (move : X → Y)
    → ((a b : X) → P a → P b → test a ≡ true → test b ≡ true → same a b ≡ false → other (move a) (move b) ≡ false)
    → (xs : List X) → AllByRecursion P xs → IsDistinct same xs → IsDistinct other (map move (filter test xs))
unfolding IsDistinct
distinct_moved P same other test move apart [] each h = tt
distinct_moved P same other test move apart (x ∷ xs) each h =
    let rest = distinct_moved P same other test move apart xs each.1 h.1 in
    elim (test x) as (λ b. test x ≡ b → IsDistinct other (map move (cond b (x ∷ filter test xs) (filter test xs)))) [
      | true ↦ λ e. (all_apart P same other test move apart x each.0 e xs each.1 h.0, rest)
      | false ↦ λ e. rest
    ] refl

-- ---- exponents

zeros_at : (k i : ℕ) → ◌≡◌ {A = ℕ} (slice_index_or (replicate k 0) i 0) 0
zeros_at zero i = refl
zeros_at (suc k) zero = refl
zeros_at (suc k) (suc i) = zeros_at k i

padded_at : (k : ℕ) (xs : List ℕ) (i : ℕ) → slice_index_or (xs ++ replicate k 0) i 0 ≡ slice_index_or xs i 0
padded_at k [] i = zeros_at k i
padded_at k (x ∷ xs) zero = refl
padded_at k (x ∷ xs) (suc i) = padded_at k xs i

nothing_before : (i : ℕ) (x : ℕ) (ys : List ℕ) → (i ≡ 0 → x ≡ 0) → ((j : ℕ) → i ≡ suc j → slice_index_or ys j 0 ≡ 0) → slice_index_or (x ∷ ys) i 0 ≡ 0
nothing_before zero x ys first later = first refl
nothing_before (suc j) x ys first later = later j refl

none_outside : (m : List ℕ) (n cut : ℕ) → cut < 2 ^ n → ((i : ℕ) → n ≤ i → slice_index_or m i 0 ≡ 0) → (i : ℕ) → n ≤ i + count_ones cut → slice_index_or (outside cut m) i 0 ≡ 0
none_outside [] n cut small h i beyond = refl
none_outside (x ∷ m) zero cut small h i beyond =
    let none : cut < 1 = small in
    let rest = none_outside m zero (cut / 2) (let e : cut / 2 < 1 = omega arith in e) (λ j le. h (suc j) (omega arith)) in
    elim (is_cut cut) as (λ b. is_cut cut ≡ b → slice_index_or (cond b (outside (cut / 2) m) (x ∷ outside (cut / 2) m)) i 0 ≡ 0) [
      | true ↦ λ e. let odd : cut % 2 ≡ 1 = grind (arith, nat_tests, e) in absurd (omega (arith, odd))
      | false ↦ λ e. nothing_before i x (outside (cut / 2) m) (λ _. h 0 (omega arith)) (λ j _. rest j (omega arith))
    ] refl
none_outside (x ∷ m) (suc n) cut small h i beyond =
    let half = half_below cut n small in
    let few = ones-le n (cut / 2) half in
    let rest = none_outside m n (cut / 2) half (λ j le. h (suc j) (omega (arith, le))) in
    elim (is_cut cut) as (λ b. is_cut cut ≡ b → slice_index_or (cond b (outside (cut / 2) m) (x ∷ outside (cut / 2) m)) i 0 ≡ 0) [
      | true ↦ λ e. let odd : cut % 2 ≡ 1 = grind (arith, nat_tests, e) in rest i (omega (arith, ones_step cut, odd, beyond))
      | false ↦ λ e. let even : cut % 2 ≡ 0 = grind (arith, nat_tests, e) in
          nothing_before i x (outside (cut / 2) m) (λ same. absurd (omega (arith, ones_step cut, even, beyond, few, same))) (λ j same. rest j (omega (arith, ones_step cut, even, beyond, same)))
    ] refl

pub cut_variables : (n cut : ℕ) → cut < 2 ^ n → (m : List ℕ) → HasVariables n m → HasVariables (n - count_ones cut) (cut_exponents cut m)
cut_variables n cut small m h = record {
  each_variable = omega (arith, length-append (outside cut m) (replicate (VARIABLES - length (outside cut m)) 0), length-replicate {A = ℕ} (VARIABLES - length (outside cut m)) 0, outside_shorter cut m, h.each_variable);
  none_beyond = λ i le. padded_at (VARIABLES - length (outside cut m)) (outside cut m) i ∙ none_outside m n cut small h.none_beyond i (omega (arith, le));
}

-- ---- powers

front_at : (P : ℤ → Type 0) (x : ℤ) (ys : List ℤ) → P x → ((i : ℕ) → P (power_at ys i)) → (i : ℕ) → P (power_at (x ∷ ys) i)
front_at P x ys p h zero = p
front_at P x ys p h (suc i) = h i

outside_at : (P : ℤ → Type 0) (cut : ℕ) (t : List ℤ) → ((i : ℕ) → P (power_at t i)) → (i : ℕ) → P (power_at (outside cut t) i)
outside_at P cut [] h = h
outside_at P cut (x ∷ t) h =
    let rest = outside_at P (cut / 2) t (λ i. h (suc i)) in
    elim (is_cut cut) as (λ b. (i : ℕ) → P (power_at (cond b (outside (cut / 2) t) (x ∷ outside (cut / 2) t)) i)) [
      | true ↦ rest
      | false ↦ front_at P x (outside (cut / 2) t) (h 0) rest
    ]

pub cut_powers : (n cut : ℕ) → cut < 2 ^ n → (t : List ℤ) → ArePowers n t → ArePowers (n - count_ones cut) (outside cut t)
cut_powers n cut small t h = record {
  count = omega (arith, outside_length cut t (subst (λ k. cut < 2 ^ k) (sym h.count) small), h.count);
  low = outside_at (λ z. LEAST_POWER ≤ℤ z) cut t h.low;
  high = outside_at (λ z. z ≤ℤ GREATEST_POWER) cut t h.high;
}

-- ---- sectors

pub without_below : (n cut k sector : ℕ) → count_ones cut + k ≡ n → cut < 2 ^ n → without_cut n cut sector < 2 ^ k
without_below zero cut zero sector e small = omega arith
without_below zero cut (suc k) sector e small = absurd (omega (arith, e))
without_below (suc n) cut k sector e small =
    let half = half_below cut n small in
    let few = ones-le n (cut / 2) half in
    elim (is_cut cut) as (λ b. is_cut cut ≡ b → cond b (without_cut n (cut / 2) (sector / 2)) (sector % 2 + 2 * without_cut n (cut / 2) (sector / 2)) < 2 ^ k) [
      | true ↦ λ c. let odd : cut % 2 ≡ 1 = grind (arith, nat_tests, c) in without_below n (cut / 2) k (sector / 2) (omega (arith, ones_step cut, odd, e)) half
      | false ↦ λ c. let even : cut % 2 ≡ 0 = grind (arith, nat_tests, c) in
          doubled k (k - 1) (sector % 2) (without_cut n (cut / 2) (sector / 2)) (omega (arith, ones_step cut, even, e, few)) (omega arith)
          (without_below n (cut / 2) (k - 1) (sector / 2) (omega (arith, ones_step cut, even, e, few)) half)
    ] refl
