-- Targets, seeds and zero sectors, which stand in arrays of integers.
--     powers_from fault n ds      the powers of an integral of n variables
--     first_occurrences targets   each target once, in the order in which they are first met
--     first_place targets powers  the place, from 0, at which an integral is first met
--     targets_of n ds             the targets of an array
--     sector_in fault n d         the sector of an array of variables
--     zero_sectors_of n ds        the sectors of arrays of variables
use Rattle.std.specs.Prelude.{ℕ, zero, suc, ◌+◌, ◌^◌, ◌==◌, ℤ, nat_eq, nat_lt, Bool, true, not, ◌&&◌, Option, Some, None, List, [], ◌∷◌, length, Result, Ok, Err, if◌then◌else◌}
use Rattle.std.specs.Option.{ok_or}
use Rattle.std.specs.List.{filter, list_any, position_or_len}
use Rattle.toml.specs.Data.{Data, as_integer}
use Rattle.ibp_algebra.specs.Laurent.{same_powers}
use Rattle.sector_lattice.specs.declared.sector.Sector.{Sector}
use Rattle.family.specs.declared.limits.TheConstants.{LEAST_POWER, GREATEST_POWER, TARGET_LIMIT, SECTOR_LIMIT}
pub use Rattle.family.specs.Permutation.{are_distinct}
use Rattle.family_file.specs.declared.fault.FileFault.{FileFault}
use Rattle.family_file.specs.declared.fault.FileFault.TheVariants.{Targets, ZeroSectors}
use Rattle.family_file.specs.Reading.{◌>>=◌, collect}
use Rattle.family_file.specs.Table.{as_list}
use Rattle.family_file.specs.Numbers.{natural, whole}

-- an integer, or the items of an array, in a place that has this fault
abbrev pub integer_in : FileFault → Data → Result ℤ FileFault
integer_in fault d = ok_or (as_integer d) fault

abbrev pub list_in : FileFault → Data → Result (List Data) FileFault
list_in fault d = ok_or (as_list d) fault

-- a power of an integral
unfoldable pub power_in : FileFault → Data → Result ℤ FileFault
power_in fault d = do
  z ← integer_in fault d
  whole fault LEAST_POWER GREATEST_POWER z

-- the powers of an integral of n variables
unfoldable pub powers_from : FileFault → ℕ → List Data → Result (List ℤ) FileFault
powers_from fault n ds = if length ds == n then collect (power_in fault) ds else Err fault

unfoldable pub powers_in : FileFault → ℕ → Data → Result (List ℤ) FileFault
powers_in fault n d = do
  ds ← list_in fault d
  powers_from fault n ds

-- the first one, and then the first occurrences in what follows that differ from it
abbrev pub first_occurrences : List (List ℤ) → List (List ℤ)
first_occurrences [] = []
first_occurrences (powers ∷ targets) = powers ∷ filter (λ other. not (same_powers powers other)) (first_occurrences targets)

abbrev pub first_place : List (List ℤ) → List ℤ → ℕ
first_place targets powers = position_or_len (same_powers powers) targets

-- the targets, each once
abbrev pub targets_in : ℕ → List Data → Result (List (List ℤ)) FileFault
targets_in n ds = do
  targets ← collect (powers_in Targets n) ds
  Ok (first_occurrences targets)

-- the targets of an array, which has no more entries than the limit
unfoldable pub targets_of : ℕ → List Data → Result (List (List ℤ)) FileFault
targets_of n ds = if nat_lt TARGET_LIMIT (length ds) then Err Targets else targets_in n ds

-- the number of a variable
unfoldable pub place_in : FileFault → ℕ → Data → Result ℕ FileFault
place_in fault n d = do
  z ← integer_in fault d
  natural fault 1 n z

-- the sum of 2^(i - 1) over the variables i up to n that are among these
abbrev pub sector_number : ℕ → List ℕ → ℕ
sector_number zero places = 0
sector_number (suc n) places = sector_number n places + (if list_any (nat_eq (suc n)) places then 2 ^ n else 0)

abbrev pub sector_of_places : FileFault → ℕ → List ℕ → Result Sector FileFault
sector_of_places fault n places = if are_distinct nat_eq places then Ok (record { 0 = sector_number n places }) else Err fault

-- a sector, as an array of its variables in any order
unfoldable pub sector_in : FileFault → ℕ → Data → Result Sector FileFault
sector_in fault n d = do
  ds ← list_in fault d
  places ← collect (place_in fault n) ds
  sector_of_places fault n places

-- the zero sectors of an array, which has no more entries than the limit
unfoldable pub zero_sectors_of : ℕ → Option (List Data) → Result (List Sector) FileFault
zero_sectors_of n None = Ok []
zero_sectors_of n (Some ds) = if nat_lt SECTOR_LIMIT (length ds) then Err ZeroSectors else collect (sector_in ZeroSectors n) ds
