-- The caps of a sector.
--     have_one_sector a b         the two entries are of the same sector
--     caps_of bounds caps sector  dots and rank of the entry for this sector, and the general caps where there is none
use Rattle.std.specs.Prelude.{ℕ, ◌==◌, Bool, List, Option, Some, None}
use Rattle.std.specs.List.{find}
use Rattle.family.specs.declared.parts.Bounds.{Bounds}
use Rattle.family.specs.declared.parts.SectorCaps.{SectorCaps}

abbrev pub have_one_sector : SectorCaps → SectorCaps → Bool
have_one_sector a b = a.sector.0 == b.sector.0

abbrev pub entry_of : List SectorCaps → ℕ → Option SectorCaps
entry_of caps sector = find (λ entry. entry.sector.0 == sector) caps

abbrev pub caps_or : Bounds → Option SectorCaps → ℕ × ℕ
caps_or bounds (Some entry) = (entry.dots, entry.rank)
caps_or bounds None = (bounds.dots_cap, bounds.rank_cap)

abbrev pub caps_of : Bounds → List SectorCaps → ℕ → ℕ × ℕ
caps_of bounds caps sector = caps_or bounds (entry_of caps sector)
