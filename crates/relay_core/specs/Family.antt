-- Families of sets of integrals, one set for each sector, and the equation of a plan.
-- Source: sectors reduced from the larger to the smaller as in Laporta's algorithm; the equation is textbook recursion down a finite order.
use Rattle.std.specs.Prelude.{◌≡◌, ◌≢◌, ◌⊎◌, ◌↔◌, ℕ, ◌≤◌, ◌==◌, Option, None, Some, List, [], ◌∷◌, Contains, filter, length}
use Rattle.std.specs.declared.cmp.Ordering.{Ordering}
use Rattle.std.specs.List.Sorted.{IsStrictlySortedBy}
use Rattle.sector_lattice.specs.declared.integral.Integral.{Integral}
use Rattle.sector_lattice.specs.Sectors.{sector_of, Ascends, IsProperSubsector}

-- which list is the tails of a sector for some targets
abbrev pub TailRelation : Type 1
TailRelation = ℕ → List Integral → List Integral → Type 0

-- what a plan opens with: how many powers an integral has, and the targets
pub record Opening : Type 0 where
  pub n : ℕ
  pub targets : List Integral

-- A family of sets is a finite map from sectors to non-empty ascending lists of integrals, and a sector that isn't in the map
-- has the empty set. An integral tells its sector, so the lists of all sectors, joined into one ascending list, tell the same,
-- and a family is kept as that one list. The set of a sector is what the list has of it.
abbrev pub book : ℕ → List Integral → List Integral
book sector family = filter (λ integral. sector_of integral == sector) family

-- the list, where it isn't empty
abbrev pub unless_empty : List Integral → Option (List Integral)
unless_empty [] = None
unless_empty (integral ∷ integrals) = Some (integral ∷ integrals)

-- the family as that map
abbrev pub books_of : List Integral → ℕ → Option (List Integral)
books_of family sector = unless_empty (book sector family)

-- sets of which finitely many aren't empty, each an ascending list of its own sector's integrals
pub record IsMap (sets : ℕ → List Integral) : Type 0 where
  pub bound : ℕ
  pub finite : (sector : ℕ) → bound ≤ sector → sets sector ≡ []
  pub ascend : (sector : ℕ) → Ascends (sets sector)
  pub own : (sector : ℕ) (integral : Integral) → Contains (sets sector) integral → sector_of integral ≡ sector

abbrev pub IsReached : ℕ → List Integral → Type 0
IsReached sector family = book sector family ≢ []

-- the new list strictly ascends in the order, and has what the old one has, and these
pub record Adds {K : Type 0} (cmp : K → K → Ordering) (old more new : List K) : Type 0 where
  pub ascends : IsStrictlySortedBy cmp new
  pub members : (item : K) → Contains new item ↔ (Contains old item ⊎ Contains more item)

-- the integral is a tail of the sector for its set
pub record IsTail (tails : TailRelation) (family : List Integral) (sector : ℕ) (integral : Integral) : Type 0 where
  pub reached : IsReached sector family
  pub all : List Integral
  pub named : tails sector (book sector family) all
  pub among : Contains all integral

-- the integral is a tail of a sector that its own lies properly in
pub record ComesFrom (tails : TailRelation) (family : List Integral) (integral : Integral) : Type 0 where
  pub sector : ℕ
  pub above : IsProperSubsector (sector_of integral) sector
  pub tail : IsTail tails family sector integral

-- The equation of a plan, which opens with these targets.
pub record MeetsEquation (tails : TailRelation) (targets family : List Integral) : Type 0 where
  pub ascends : Ascends family
  pub members : (integral : Integral) → Contains family integral ↔ (Contains targets integral ⊎ ComesFrom tails family integral)

-- What a relation of tails keeps to, where integrals have n powers: at most one list is named, and it ascends
-- through integrals of n powers in proper subsectors.
pub record AreLawful (tails : TailRelation) (n : ℕ) : Type 0 where
  pub one : (sector : ℕ) (targets first second : List Integral) → tails sector targets first → tails sector targets second → first ≡ second
  pub ascend : (sector : ℕ) (targets all : List Integral) → tails sector targets all → Ascends all
  pub below : (sector : ℕ) (targets all : List Integral) → tails sector targets all → (integral : Integral) → Contains all integral → IsProperSubsector (sector_of integral) sector
  pub powers : (sector : ℕ) (targets all : List Integral) → tails sector targets all → (integral : Integral) → Contains all integral → length integral ≡ n
