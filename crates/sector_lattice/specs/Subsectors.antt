-- Tests for subsectors, which compute by the digits of the sectors' numbers.
--     is_subsector inner outer            whether each member of the one sector is a member of the other
--     is_subsector_of_any sector listed   whether the sector is a subsector of a listed one
--     IsListedSubsector sector listed     there is a listed sector that has each member of the sector
-- Source: subsectors as in Laporta's algorithm; subsets by their binary digits as in textbooks.
use Rattle.std.specs.Prelude.{ℕ, Bool, List, ◌==◌, bit_and}
use Rattle.std.specs.List.{Any, list_any}
use Rattle.sector_lattice.specs.declared.sector.Sector.{Sector}
use Rattle.sector_lattice.specs.Sectors.{IsSubsector}

abbrev pub is_subsector : ℕ → ℕ → Bool
is_subsector inner outer = bit_and inner outer == inner

abbrev pub is_subsector_of_any : ℕ → List Sector → Bool
is_subsector_of_any sector listed = list_any (λ outer. is_subsector sector outer.0) listed

abbrev pub IsListedSubsector : ℕ → List Sector → Type 0
IsListedSubsector sector listed = Any (λ outer. IsSubsector sector outer.0) listed
