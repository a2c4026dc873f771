-- What stands at the places of a cut and at the others. A cut is the number of a sector: its members are the
-- variables that are set to zero, and the binary digits of the number tell them.
--     outside cut xs             what stands at the places outside the cut, in order
--     inside cut xs              what stands at the members of the cut, in order
--     filled fill n cut xs       n entries: `fill` at each member of the cut, and xs in order at the other places
--     without_cut n cut sector   the sector without the members of the cut, in the new numbers
--     with_cut n cut sector      a sector in the new numbers, with the old numbers back and with the cut
-- Source: cuts of Feynman integrals set propagators to zero; places of our own.
use Rattle.std.specs.Prelude.{ℕ, zero, suc, ◌+◌, ◌*◌, ◌/◌, ◌%◌, Bool, if◌then◌else◌, ◌==◌, List, [], ◌∷◌, drop, slice_index_or}

-- the first of the places is a member
abbrev pub is_cut : ℕ → Bool
is_cut cut = cut % 2 == 1

abbrev pub outside : {X : Type 0} → ℕ → List X → List X
outside cut [] = []
outside cut (x ∷ xs) = if is_cut cut then outside (cut / 2) xs else (x ∷ outside (cut / 2) xs)

abbrev pub inside : {X : Type 0} → ℕ → List X → List X
inside cut [] = []
inside cut (x ∷ xs) = if is_cut cut then (x ∷ inside (cut / 2) xs) else inside (cut / 2) xs

unfoldable pub filled : {X : Type 0} → X → ℕ → ℕ → List X → List X
filled fill zero cut xs = []
filled fill (suc n) cut xs = (if is_cut cut then fill else slice_index_or xs 0 fill) ∷ filled fill n (cut / 2) (if is_cut cut then xs else drop 1 xs)

abbrev pub without_cut : ℕ → ℕ → ℕ → ℕ
without_cut zero cut sector = 0
without_cut (suc n) cut sector =
    if is_cut cut then without_cut n (cut / 2) (sector / 2) else (sector % 2 + 2 * without_cut n (cut / 2) (sector / 2))

abbrev pub with_cut : ℕ → ℕ → ℕ → ℕ
with_cut zero cut sector = 0
with_cut (suc n) cut sector =
    if is_cut cut then (1 + 2 * with_cut n (cut / 2) sector) else (sector % 2 + 2 * with_cut n (cut / 2) (sector / 2))
