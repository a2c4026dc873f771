-- Sectors that are read are below their limit.
use Rattle.std.proofs.Common.{◌≡◌, ℕ, zero, suc, ◌+◌, ◌*◌, ◌%◌, ◌<◌, ◌≤◌, ◌^◌, Bool, true, false, cond, List, [], length, Ok, Option, Some, None, subst, arith, pow-suc}
use Rattle.std.proofs.Math.Nat.{mod-le}
use Rattle.std.specs.Prelude.{nat_eq, nat_lt}
use Rattle.std.specs.List.{All, AllByRecursion, list_any}
use Rattle.std.proofs.lemmas.Bool.Decides.{nat_tests}
use Rattle.toml.specs.Data.{Data}
use Rattle.sector_lattice.specs.declared.sector.Sector.{Sector}
use Rattle.family.specs.declared.limits.TheConstants.{SECTOR_LIMIT}
use Rattle.family_file.specs.declared.fault.FileFault.{FileFault}
use Rattle.family_file.specs.declared.fault.FileFault.TheVariants.{ZeroSectors}
use Rattle.family_file.specs.Reading.{collect}
use Rattle.family_file.specs.Arrays.{list_in, place_in, are_distinct, sector_number, sector_in, zero_sectors_of}
use Rattle.family_file.proofs.Binds.{bind_ok, if_ok, unless_ok, collect_each, collect_length}
use Rattle.ibp_base.proofs.Tests.{same_ok}
use Rattle.ibp_base.proofs.Members.{All-each}

digit_fits : (b : Bool) (n m : ℕ) → m < 2 ^ n → m + cond b (2 ^ n) 0 < 2 ^ (suc n)
digit_fits true n m h = grind (arith, pow-suc)
digit_fits false n m h = grind (arith, pow-suc)

pub number_below : (n : ℕ) (places : List ℕ) → sector_number n places < 2 ^ n
number_below zero places = omega arith
number_below (suc n) places = digit_fits (list_any (nat_eq (suc n)) places) n (sector_number n places) (number_below n places)

-- one more variable
pub grown : (k m : ℕ) → m < 2 ^ k → m + 1 * 2 ^ k % 65536 < 2 ^ (suc k)
grown k m h = let less : 1 * 2 ^ k % 65536 ≤ 1 * 2 ^ k = mod-le (1 * 2 ^ k) 65536 in grind (arith, pow-suc, less)

pub kept : (k m : ℕ) → m < 2 ^ k → m < 2 ^ (suc k)
kept k m h = grind (arith, pow-suc)

pub record IsBelow (n : ℕ) (sector : Sector) : Type 0 where
  pub below : sector.0 < 2 ^ n

pub sector_is : (fault : FileFault) (n : ℕ) (d : Data) (sector : Sector) → sector_in fault n d ≡ Ok sector → IsBelow n sector
unfolding sector_in
sector_is fault n d sector h =
    let listed = bind_ok (list_in fault d) _ sector h in
    let read = bind_ok (collect (place_in fault n) listed.0) _ sector listed.1.1 in
    let made = if_ok (are_distinct nat_eq read.0) _ sector fault read.1.1 in
    subst (IsBelow n) made.1 (record { below = number_below n read.0 })

all_below : (n : ℕ) (sectors : List Sector) → AllByRecursion (IsBelow n) sectors → All (λ sector. sector.0 < 2 ^ n) sectors
all_below n sectors h k d below = (All-each (IsBelow n) sectors h k d below).below

pub record AreZeroSectors (n : ℕ) (sectors : List Sector) : Type 0 where
  pub few : length sectors ≤ SECTOR_LIMIT
  pub each : All (λ sector. sector.0 < 2 ^ n) sectors

pub zero_sectors_are : (n : ℕ) (ds : Option (List Data)) (sectors : List Sector) → zero_sectors_of n ds ≡ Ok sectors → AreZeroSectors n sectors
unfolding zero_sectors_of
zero_sectors_are n None sectors h = subst (AreZeroSectors n) (same_ok [] sectors h) (record { few = omega arith; each = λ k d below. absurd (omega arith) })
zero_sectors_are n (Some ds) sectors h =
    let within = unless_ok (nat_lt SECTOR_LIMIT (length ds)) _ ZeroSectors sectors h in
    let many : length sectors ≡ length ds = collect_length (sector_in ZeroSectors n) ds sectors within.1 in
    let few : length ds ≤ SECTOR_LIMIT = grind (arith, nat_tests, within.0) in
    record { few = omega (arith, many, few); each = all_below n sectors (collect_each (IsBelow n) (sector_in ZeroSectors n) (sector_is ZeroSectors n) ds sectors within.1) }
