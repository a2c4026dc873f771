-- Permutations of variables, which stand in arrays of integers.
--     permutation_in n d      the permutation of the n variables of an array
--     symmetries_of n ds      the permutations of an array, which are a group with the identity
use Rattle.std.specs.Prelude.{ℕ, nat_lt, Option, Some, None, List, [], length, Result, Ok, Err, if◌then◌else◌}
use Rattle.toml.specs.Data.{Data}
use Rattle.family.specs.declared.limits.TheConstants.{SYMMETRY_LIMIT}
use Rattle.family.specs.Permutation.{is_permutation, are_closed}
use Rattle.family_file.specs.declared.fault.FileFault.{FileFault}
use Rattle.family_file.specs.declared.fault.FileFault.TheVariants.{Symmetries}
use Rattle.family_file.specs.Reading.{◌>>=◌, collect}
use Rattle.family_file.specs.Arrays.{list_in, place_in}

abbrev pub permutation_of : ℕ → List ℕ → Result (List ℕ) FileFault
permutation_of n numbers = if is_permutation n numbers then Ok numbers else Err Symmetries

-- each variable once
unfoldable pub permutation_in : ℕ → Data → Result (List ℕ) FileFault
permutation_in n d = do
  ds ← list_in Symmetries d
  numbers ← collect (place_in Symmetries n) ds
  permutation_of n numbers

abbrev pub unless_open : ℕ → List (List ℕ) → Result (List (List ℕ)) FileFault
unless_open n entries = if are_closed n entries then Ok entries else Err Symmetries

-- the entries of an array, which has no more than the limit; with the identity they hold each product
unfoldable pub symmetries_of : ℕ → Option (List Data) → Result (List (List ℕ)) FileFault
symmetries_of n None = Ok []
symmetries_of n (Some ds) = if nat_lt SYMMETRY_LIMIT (length ds) then Err Symmetries else do
  entries ← collect (permutation_in n) ds
  unless_open n entries
