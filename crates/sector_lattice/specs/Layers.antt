-- The integrals of a sector with exactly so many dots and exactly so much rank, one place after the other.
-- Source: the seeds of Laporta's algorithm; lists with a given sum as in textbooks.
use Rattle.std.specs.Prelude.{ℕ, zero, suc, ◌+◌, ◌-◌, ◌/◌, ◌%◌, ℤ, pos, neg_ℤ, Bool, if◌then◌else◌, ◌==◌, List, [], ◌∷◌, ◌++◌, map}

-- the lists of the numbers below a bound, joined in their order
unfoldable pub joined : {X : Type 0} → (ℕ → List X) → ℕ → List X
joined f zero = []
joined f (suc n) = joined f n ++ f n

abbrev pub is_member : ℕ → Bool
is_member sector = sector % 2 == 1

-- the power that has so many dots in a member's place, or so much rank in another's
unfoldable pub power_of : Bool → ℕ → ℤ
power_of member spent = if member then pos (suc spent) else neg_ℤ (pos spent)

-- what is left of the dots and of the rank
unfoldable pub dots_left : Bool → ℕ → ℕ → ℕ
dots_left member dots spent = if member then dots - spent else dots

unfoldable pub rank_left : Bool → ℕ → ℕ → ℕ
rank_left member rank spent = if member then rank else rank - spent

unfoldable pub to_spend : Bool → ℕ → ℕ → ℕ
to_spend member dots rank = if member then dots else rank

unfoldable pub layer : ℕ → ℕ → ℕ → ℕ → List (List ℤ)
layer zero sector dots rank = if dots + rank == 0 then [] ∷ [] else []
layer (suc n) sector dots rank =
    joined
    (λ spent. map (λ powers. power_of (is_member sector) spent ∷ powers) (layer n (sector / 2) (dots_left (is_member sector) dots spent) (rank_left (is_member sector) rank spent)))
    (to_spend (is_member sector) dots rank + 1)

-- all with at most so many dots and at most so much rank
abbrev pub layers : ℕ → ℕ → ℕ → ℕ → List (List ℤ)
layers n sector dots rank = joined (λ d. joined (λ r. layer n sector d r) (rank + 1)) (dots + 1)
