-- Laws of the places of a cut: lengths, sums and what holds of each entry.
use Rattle.std.proofs.Common.{◌≡◌, ℕ, zero, suc, ◌+◌, ◌-◌, ◌*◌, ◌/◌, ◌%◌, ◌^◌, ◌<◌, ◌≤◌, Bool, true, false, cond, List, [], ◌∷◌, ◌++◌, length, sum, drop, refl, sym, ◌∙◌, ap, subst, arith, pow-suc, append_assoc, append-nil, replicate, map}
use Rattle.std.specs.Prelude.{count_ones, slice_index_or}
use Rattle.std.specs.List.{All, AllByRecursion}
use Rattle.std.specs.Int.Count.{ones_step}
use Rattle.std.proofs.lemmas.Bool.Decides.{nat_tests}
use Rattle.std.proofs.lemmas.List.Sums.{sum_by-cons}
use Rattle.std.proofs.lemmas.Nat.{ones_le_self}
use Rattle.sector_lattice.proofs.Digits.{half_below}
use Rattle.cut_family.specs.Places.{is_cut, outside, filled}

doubled_more : (k r s : ℕ) → r < 2 → s < 2 ^ k → r + 2 * s < 2 ^ (suc k)
doubled_more k r s few below = grind (arith, pow-suc)

-- a digit in front of a number
pub doubled : (n k r s : ℕ) → suc k ≡ n → r < 2 → s < 2 ^ k → r + 2 * s < 2 ^ n
doubled n k r s e few below = subst (λ m. r + 2 * s < 2 ^ m) e (doubled_more k r s few below)

pub still_below : (n k s : ℕ) → suc k ≡ n → s < 2 ^ k → s < 2 ^ n
still_below n k s e below = let more : s + s < 2 ^ n = subst (λ m. s + s < 2 ^ m) e (grind (arith, pow-suc)) in omega arith

pub outside_length : {X : Type 0} (cut : ℕ) (xs : List X) → cut < 2 ^ length xs → length (outside cut xs) + count_ones cut ≡ length xs
outside_length cut [] few = let none : cut < 1 = few in omega (arith, ones_le_self cut)
outside_length {X} cut (x ∷ xs) few =
    let others = outside_length (cut / 2) xs (half_below cut (length xs) few) in
    elim (is_cut cut) as (λ b. is_cut cut ≡ b → length (cond b (outside (cut / 2) xs) (x ∷ outside (cut / 2) xs)) + count_ones cut ≡ suc (length xs)) [
      | true ↦ λ e. let odd : cut % 2 ≡ 1 = grind (arith, nat_tests, e) in omega (arith, ones_step cut, others, odd)
      | false ↦ λ e. let even : cut % 2 ≡ 0 = grind (arith, nat_tests, e) in omega (arith, ones_step cut, others, even)
    ] refl

pub outside_shorter : {X : Type 0} (cut : ℕ) (xs : List X) → length (outside cut xs) ≤ length xs
outside_shorter cut [] = omega arith
outside_shorter cut (x ∷ xs) =
    elim (is_cut cut) as (λ b. length (cond b (outside (cut / 2) xs) (x ∷ outside (cut / 2) xs)) ≤ suc (length xs)) [
      | true ↦ omega (arith, outside_shorter (cut / 2) xs)
      | false ↦ omega (arith, outside_shorter (cut / 2) xs)
    ]

pub outside_sum : (cut : ℕ) (m : List ℕ) → sum (outside cut m) ≤ sum m
outside_sum cut [] = omega arith
outside_sum cut (x ∷ m) =
    elim (is_cut cut) as (λ b. sum (cond b (outside (cut / 2) m) (x ∷ outside (cut / 2) m)) ≤ sum (x ∷ m)) [
      | true ↦ omega (arith, outside_sum (cut / 2) m, sum_by-cons (λ y. y) x m)
      | false ↦ omega (arith, outside_sum (cut / 2) m, sum_by-cons (λ y. y) x m, sum_by-cons (λ y. y) x (outside (cut / 2) m))
    ]

pub outside_each : {X : Type 0} (P : X → Type 0) (cut : ℕ) (xs : List X) → All P xs → AllByRecursion P (outside cut xs)
outside_each P cut [] h = tt
outside_each P cut (x ∷ xs) h =
    let others = outside_each P (cut / 2) xs (λ k d below. h (suc k) d (omega (arith, below))) in
    elim (is_cut cut) as (λ b. AllByRecursion P (cond b (outside (cut / 2) xs) (x ∷ outside (cut / 2) xs))) [
      | true ↦ others
      | false ↦ (h 0 x (omega arith), others)
    ]

pub filled_length : {X : Type 0} (fill : X) (n cut : ℕ) (xs : List X) → length (filled fill n cut xs) ≡ n
unfolding filled
filled_length fill zero cut xs = refl
filled_length fill (suc n) cut xs = ap suc (filled_length fill n (cut / 2) (cond (is_cut cut) xs (drop 1 xs)))

head_and_rest : (xs : List ℕ) → slice_index_or xs 0 0 + sum (drop 1 xs) ≡ sum xs
head_and_rest [] = refl
head_and_rest (x ∷ xs) = sym (sum_by-cons (λ y. y) x xs)

pub filled_sum : (n cut : ℕ) (xs : List ℕ) → sum (filled 0 n cut xs) ≤ sum xs
unfolding filled
filled_sum zero cut xs = omega arith
filled_sum (suc n) cut xs =
    elim (is_cut cut) as (λ b. sum (cond b 0 (slice_index_or xs 0 0) ∷ filled 0 n (cut / 2) (cond b xs (drop 1 xs))) ≤ sum xs) [
      | true ↦ omega (arith, filled_sum n (cut / 2) xs, sum_by-cons (λ y. y) 0 (filled 0 n (cut / 2) xs))
      | false ↦ omega (arith, filled_sum n (cut / 2) (drop 1 xs), head_and_rest xs, sum_by-cons (λ y. y) (slice_index_or xs 0 0) (filled 0 n (cut / 2) (drop 1 xs)))
    ]

first_each : {X : Type 0} (P : X → Type 0) (fill : X) (xs : List X) → P fill → All P xs → P (slice_index_or xs 0 fill)
first_each P fill [] p h = p
first_each P fill (x ∷ xs) p h = h 0 x (omega arith)

later_each : {X : Type 0} (P : X → Type 0) (xs : List X) → All P xs → All P (drop 1 xs)
later_each P [] h = h
later_each P (x ∷ xs) h = λ k d below. h (suc k) d (omega (arith, below))

pub filled_each : {X : Type 0} (P : X → Type 0) (fill : X) (n cut : ℕ) (xs : List X) → P fill → All P xs → AllByRecursion P (filled fill n cut xs)
unfolding filled
filled_each P fill zero cut xs p h = tt
filled_each P fill (suc n) cut xs p h =
    elim (is_cut cut) as (λ b. P (cond b fill (slice_index_or xs 0 fill)) × AllByRecursion P (filled fill n (cut / 2) (cond b xs (drop 1 xs)))) [
      | true ↦ (p, filled_each P fill n (cut / 2) xs p h)
      | false ↦ (first_each P fill xs p h, filled_each P fill n (cut / 2) (drop 1 xs) p (later_each P xs h))
    ]

-- one more place is filled
pub filled_put : {X : Type 0} (fill first : X) (n k cut : ℕ) (xs later old mid new : List X) → suc k ≡ n → first ≡ cond (is_cut cut) fill (slice_index_or xs 0 fill) → later ≡ cond (is_cut cut) xs (drop 1 xs)
    → mid ≡ old ++ first ∷ [] → new ≡ mid ++ filled fill k (cut / 2) later → new ≡ old ++ filled fill n cut xs
unfolding filled
filled_put fill first n k cut xs later old mid new e f l m h =
    h ∙ ap (λ front. front ++ filled fill k (cut / 2) later) m ∙ append_assoc old (first ∷ []) (filled fill k (cut / 2) later)
    ∙ (λ i. old ++ f i ∷ filled fill k (cut / 2) (l i)) ∙ ap (λ m. old ++ filled fill m cut xs) e

-- what is put behind nothing
pub from_empty : {X : Type 0} (new xs all : List X) → new ≡ [] → all ≡ new ++ xs → all ≡ xs
from_empty new xs all none h = h ∙ ap (λ front. front ++ xs) none

-- all places filled leave no room for zeros
pub no_room : (n : ℕ) (xs : List ℕ) → length xs ≡ n → xs ++ replicate (n - length xs) 0 ≡ xs
no_room n xs e =
    let none : n - length xs ≡ 0 = omega arith in
    ap (λ k. xs ++ replicate k 0) none ∙ append-nil xs

-- what stands at the later places is changed entry by entry
pub later_mapped : {X Y : Type 0} (f : X → Y) (b : Bool) (xs later : List X) → later ≡ cond b xs (drop 1 xs) → map f later ≡ cond b (map f xs) (drop 1 (map f xs))
later_mapped f true xs later e = ap (map f) e
later_mapped f false [] later e = ap (map f) e
later_mapped f false (x ∷ xs) later e = ap (map f) e
