-- What a list contains.
use Rattle.std.proofs.Common.{◌≡◌, ◌≢◌, ◌⊎◌, ℕ, zero, suc, ◌<◌, ◌≤◌, Bool, true, false, cond, List, [], ◌∷◌, length, get_or, refl, sym, ◌∙◌, ap, subst, inl, inr, arith}
use Rattle.std.specs.Prelude.{Contains, map, filter}
use Rattle.std.specs.List.{All, AllByRecursion, AllWithin}
use Rattle.std.proofs.lemmas.List.Elements.{All-contains, All-from_all_within, AllWithin-upto}

pub in_cases : {X : Type 0} (x : X) (xs : List X) (y : X) → Contains (x ∷ xs) y → (x ≡ y) ⊎ Contains xs y
in_cases x xs y (zero, inside, same) = inl same
in_cases x xs y (suc k, inside, same) = inr (k, omega arith, same)

pub in_head : {X : Type 0} (x : X) (xs : List X) (y : X) → x ≡ y → Contains (x ∷ xs) y
in_head x xs y same = (0, omega arith, same)

pub in_tail : {X : Type 0} (x : X) (xs : List X) (y : X) → Contains xs y → Contains (x ∷ xs) y
in_tail x xs y h = (suc h.0, omega (arith, h.1), h.2)

pub in_none : {X : Type 0} (y : X) → Contains [] y → ⊥
in_none y h = omega (arith, h.1)

pub from_map : {X Y : Type 0} (f : X → Y) (xs : List X) (y : Y) → Contains (map f xs) y → (x : X) × (Contains xs x × (f x ≡ y))
from_map f [] y h = absurd (in_none y h)
from_map {X} f (x ∷ xs) y h =
    elim (in_cases (f x) (map f xs) y h) [
      | inl same ↦ (x, (in_head x xs x refl, same))
      | inr rest ↦ (let found : (z : X) × (Contains xs z × (f z ≡ y)) = from_map f xs y rest in (found.0, (in_tail x xs found.0 found.1.0, found.1.1)))
    ]

pub in_map : {X Y : Type 0} (f : X → Y) (xs : List X) (x : X) → Contains xs x → Contains (map f xs) (f x)
in_map f [] x h = absurd (in_none x h)
in_map f (z ∷ xs) x h =
    elim (in_cases z xs x h) [
      | inl same ↦ in_head (f z) (map f xs) (f x) (ap f same)
      | inr rest ↦ in_tail (f z) (map f xs) (f x) (in_map f xs x rest)
    ]

pub in_filter : {X : Type 0} (p : X → Bool) (xs : List X) (y : X) → p y ≡ true → Contains xs y → Contains (filter p xs) y
in_filter p [] y passes h = h
in_filter p (x ∷ xs) y passes h =
    elim (p x) as (λ b. p x ≡ b → Contains (cond b (x ∷ filter p xs) (filter p xs)) y) [
      | true ↦ λ _. elim (in_cases x xs y h) [ inl same ↦ in_head x (filter p xs) y same | inr rest ↦ in_tail x (filter p xs) y (in_filter p xs y passes rest) ]
      | false ↦ λ fails. elim (in_cases x xs y h) [ inl same ↦ absurd (cc) | inr rest ↦ in_filter p xs y passes rest ]
    ] refl

pub from_filter : {X : Type 0} (p : X → Bool) (xs : List X) (y : X) → Contains (filter p xs) y → Contains xs y × (p y ≡ true)
from_filter p [] y h = absurd (in_none y h)
from_filter p (x ∷ xs) y h =
    elim (p x) as (λ b. p x ≡ b → Contains (cond b (x ∷ filter p xs) (filter p xs)) y → Contains (x ∷ xs) y × (p y ≡ true)) [
      | true ↦ λ passes k. elim (in_cases x (filter p xs) y k) [
        | inl same ↦ (in_head x xs y same, ap p (sym same) ∙ passes)
        | inr rest ↦ (in_tail x xs y (from_filter p xs y rest).0, (from_filter p xs y rest).1)
      ]
      | false ↦ λ _ k. (in_tail x xs y (from_filter p xs y k).0, (from_filter p xs y k).1)
    ] refl h

pub some_or_none : {X : Type 0} (xs : List X) → (xs ≡ []) ⊎ ((x : X) × Contains xs x)
some_or_none [] = inl refl
some_or_none (x ∷ xs) = inr (x, in_head x xs x refl)

pub not_empty : {X : Type 0} (xs : List X) (x : X) → Contains xs x → xs ≢ []
not_empty xs x h e = in_none x (subst (λ ys. Contains ys x) e h)

-- a number is in a list or not
pub number_in : (xs : List ℕ) (n : ℕ) → Contains xs n ⊎ (Contains xs n → ⊥)
number_in [] n = inr (in_none n)
number_in (x ∷ xs) n =
    elim (same_or_other x n) [
      | inl same ↦ inl (in_head x xs n same)
      | inr other ↦ elim (number_in xs n) [
        | inl rest ↦ inl (in_tail x xs n rest)
        | inr none ↦ inr (λ h. elim (in_cases x xs n h) [ inl same ↦ other same | inr rest ↦ none rest ])
      ]
    ]
  where
    same_or_other : (a b : ℕ) → (a ≡ b) ⊎ (a ≢ b)
    same_or_other a b = grind arith

-- from each element a fact, or from one of them something else
pub each_or : {X : Type 0} (E : Type 0) (P : X → Type 0) (xs : List X) → ((x : X) → Contains xs x → E ⊎ P x) → E ⊎ ((x : X) → Contains xs x → P x)
each_or E P [] h = inr (λ x inside. absurd (in_none x inside))
each_or E P (x ∷ xs) h =
    elim (h x (in_head x xs x refl)) [
      | inl e ↦ inl e
      | inr here ↦ elim (each_or E P xs (λ y inside. h y (in_tail x xs y inside))) [
        | inl e ↦ inl e
        | inr rest ↦ inr (λ y inside. elim (in_cases x xs y inside) [ inl same ↦ subst P same here | inr behind ↦ rest y behind ])
      ]
    ]

pub each_by_recursion : {X : Type 0} (P : X → Type 0) (xs : List X) → ((x : X) → Contains xs x → P x) → AllByRecursion P xs
each_by_recursion P [] h = tt
each_by_recursion P (x ∷ xs) h = (h x (in_head x xs x refl), each_by_recursion P xs (λ y inside. h y (in_tail x xs y inside)))

pub by_recursion_each : {X : Type 0} (P : X → Type 0) (xs : List X) (y : X) → AllByRecursion P xs → Contains xs y → P y
by_recursion_each P [] y h inside = absurd (in_none y inside)
by_recursion_each P (x ∷ xs) y h inside = elim (in_cases x xs y inside) [ inl same ↦ subst P same h.0 | inr rest ↦ by_recursion_each P xs y h.1 rest ]

pub All-each : {X : Type 0} (P : X → Type 0) (xs : List X) → AllByRecursion P xs → All P xs
All-each P [] h k d below = absurd (omega arith)
All-each P (x ∷ xs) h zero d below = h.0
All-each P (x ∷ xs) h (suc k) d below = All-each P xs h.1 k d (omega arith)

-- what holds up to an end, at each element
pub everywhere : {X : Type 0} (P : X → Type 0) (xs : List X) (i : ℕ) → AllWithin P xs 0 i → length xs ≤ i → (x : X) → Contains xs x → P x
everywhere P xs i all end x inside = All-contains P xs x (All-from_all_within P xs (AllWithin-upto P xs 0 i (length xs) end all)) inside

-- the element that a loop reads is one of the list
pub read : {X : Type 0} (xs : List X) (i : ℕ) (x : X) → i < length xs → x ≡ get_or xs i x → Contains xs x
read xs i x inside is = (i, inside, sym is)
