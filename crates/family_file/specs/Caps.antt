-- The caps of sectors, which stand in an array of tables.
--     caps_in n d      the caps of one sector
--     caps_of n ds     those of all sectors that have an entry, in the order of the array
use Rattle.std.specs.Prelude.{ℕ, nat_lt, codes, Option, Some, None, List, [], ◌∷◌, length, Result, Ok, Err, if◌then◌else◌}
use Rattle.toml.specs.Data.{Data, Members}
use Rattle.sector_lattice.specs.declared.sector.Sector.{Sector}
use Rattle.family.specs.declared.limits.TheConstants.{CAP_LIMIT, SECTOR_CAPS_LIMIT}
use Rattle.family.specs.declared.parts.SectorCaps.{SectorCaps}
use Rattle.family.specs.Caps.{have_one_sector}
use Rattle.family_file.specs.declared.fault.FileFault.{FileFault}
use Rattle.family_file.specs.declared.fault.FileFault.TheVariants.{Limits}
use Rattle.family_file.specs.Reading.{◌>>=◌, collect}
use Rattle.family_file.specs.Table.{has_only, member_in, table_in}
use Rattle.family_file.specs.Numbers.{natural}
use Rattle.family_file.specs.Arrays.{integer_in, are_distinct, sector_in}

abbrev pub caps_names : List (List ℕ)
caps_names = codes "sector" ∷ codes "dots" ∷ codes "rank" ∷ []

unfoldable pub sector_at : ℕ → Members → Result Sector FileFault
sector_at n table = do
  d ← member_in Limits (codes "sector") table
  sector_in Limits n d

-- a cap at a key
unfoldable pub cap_at : List ℕ → Members → Result ℕ FileFault
cap_at key table = do
  d ← member_in Limits key table
  z ← integer_in Limits d
  natural Limits 0 CAP_LIMIT z

unfoldable pub caps_at : ℕ → Members → Result SectorCaps FileFault
caps_at n table = do
  sector ← sector_at n table
  dots ← cap_at (codes "dots") table
  rank ← cap_at (codes "rank") table
  Ok (record { sector = sector; dots = dots; rank = rank })

-- the caps of one sector: a table with these keys and no others
unfoldable pub caps_in : ℕ → Data → Result SectorCaps FileFault
caps_in n d = do
  table ← table_in Limits d
  if has_only caps_names table then caps_at n table else Err Limits

abbrev pub unless_repeated : List SectorCaps → Result (List SectorCaps) FileFault
unless_repeated caps = if are_distinct have_one_sector caps then Ok caps else Err Limits

-- the entries of an array, which has no more than the limit, and no two for one sector
unfoldable pub caps_of : ℕ → Option (List Data) → Result (List SectorCaps) FileFault
caps_of n None = Ok []
caps_of n (Some ds) = if nat_lt SECTOR_CAPS_LIMIT (length ds) then Err Limits else do
  caps ← collect (caps_in n) ds
  unless_repeated caps
