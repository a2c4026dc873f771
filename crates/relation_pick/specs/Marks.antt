-- Marks on places: a list of Bools.
--     IsMarked marks k               place k is marked
--     IsNamed weights k              some weight has the name k
--     AnyNamed all k                 one of these lists of weights has the name k
--     Marks old new weights          the names of the weights are marked, and no others
--     ListsMarked marks places       the marked places, lowest first
--     ListsNamed all places          the names of these lists of weights, lowest first
use Rattle.std.specs.Prelude.{◌≡◌, ◌⊎◌, ℕ, Bool, true, Some, List, [], ◌∷◌, Contains, slice_get}
use Rattle.std.specs.List.Sorted.{IsStrictlyIncreasing}
use Rattle.ibp_algebra.specs.FormalSum.{FormalSum}

abbrev pub IsMarked : List Bool → ℕ → Type 0
IsMarked marks k = slice_get marks k ≡ Some true

abbrev pub IsNamed : FormalSum ℕ → ℕ → Type 0
IsNamed [] k = ⊥
IsNamed (weight ∷ weights) k = (weight.0 ≡ k) ⊎ IsNamed weights k

abbrev pub AnyNamed : List (FormalSum ℕ) → ℕ → Type 0
AnyNamed [] k = ⊥
AnyNamed (weights ∷ others) k = IsNamed weights k ⊎ AnyNamed others k

pub record Marks (old new : List Bool) (weights : FormalSum ℕ) : Type 0 where
  pub names : (k : ℕ) → IsNamed weights k → IsMarked new k
  pub others : (k : ℕ) → IsMarked new k → IsMarked old k ⊎ IsNamed weights k
  pub kept : (k : ℕ) → IsMarked old k → IsMarked new k

pub record ListsMarked (marks : List Bool) (places : List ℕ) : Type 0 where
  pub ascends : IsStrictlyIncreasing places
  pub lists : (k : ℕ) → Contains places k → IsMarked marks k
  pub all : (k : ℕ) → IsMarked marks k → Contains places k

pub record ListsNamed (all : List (FormalSum ℕ)) (places : List ℕ) : Type 0 where
  pub ascends : IsStrictlyIncreasing places
  pub lists : (k : ℕ) → Contains places k → AnyNamed all k
  pub all_named : (k : ℕ) → AnyNamed all k → Contains places k
