-- Permutations of the numbers 1 to n, each as the list of its n numbers: at place i stands the number that i becomes.
--     is_permutation n numbers     n numbers from 1 to n, no two of them the same
--     permutation_of numbers       the permutation that the numbers are
--     image_of numbers i           the number that i becomes
--     product first second         the permutation that sends i to second(first(i))
--     identity n                   the one that moves nothing
--     are_closed n entries         with the identity added they hold the product of each two of them
use Rattle.std.specs.Prelude.{ℕ, zero, suc, ◌+◌, ◌-◌, ◌==◌, nat_eq, Bool, true, not, ◌&&◌, List, [], ◌∷◌, length, map, slice_index, Option, Some, None, if◌then◌else◌}
use Rattle.std.specs.Cmp.Lexicographic.{pointwise}
use Rattle.std.specs.List.{list_any, list_all}
use Rattle.family.specs.Name.{is_between}

-- no two are the same
abbrev pub are_distinct : {X : Type 0} → (X → X → Bool) → List X → Bool
are_distinct same [] = true
are_distinct same (x ∷ xs) = not (list_any (same x) xs) && are_distinct same xs

abbrev pub is_permutation : ℕ → List ℕ → Bool
is_permutation n numbers = length numbers == n && (list_all (is_between 1 n) numbers && are_distinct nat_eq numbers)

abbrev pub permutation_of : List ℕ → Option (List ℕ)
permutation_of numbers = if is_permutation (length numbers) numbers then Some numbers else None

abbrev pub image_of : List ℕ → ℕ → ℕ
image_of numbers i = slice_index numbers (i - 1)

abbrev pub product : List ℕ → List ℕ → List ℕ
product first second = map (image_of second) first

-- as many numbers, from this one on
abbrev pub numbers_from : ℕ → ℕ → List ℕ
numbers_from i zero = []
numbers_from i (suc n) = i ∷ numbers_from (i + 1) n

abbrev pub identity : ℕ → List ℕ
identity n = numbers_from 1 n

abbrev pub is_among : List (List ℕ) → List ℕ → Bool
is_among entries numbers = list_any (pointwise nat_eq numbers) entries

-- a product with the identity is the other one of the two
abbrev pub are_closed : ℕ → List (List ℕ) → Bool
are_closed n entries = list_all (λ first. list_all (λ second. is_among (identity n ∷ entries) (product first second)) entries) entries
