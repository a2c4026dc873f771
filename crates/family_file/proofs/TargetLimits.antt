-- Powers and targets that are read are within their limits.
use Rattle.std.proofs.Common.{◌≡◌, ℕ, zero, suc, ◌≤◌, List, [], ◌∷◌, length, Ok, ◌∙◌, arith, subst}
use Rattle.std.specs.Prelude.{ℤ, ◌≤ℤ◌, neg_ℤ, nat_lt, ◌==◌}
use Rattle.std.specs.List.{All, AllByRecursion, IsDistinct}
use Rattle.std.specs.Int.Signed.{le_z_yes}
use Rattle.std.proofs.lemmas.Float.{T_from_true}
use Rattle.std.proofs.lemmas.Int.{ints}
use Rattle.std.proofs.lemmas.Bool.Decides.{nat_tests}
use Rattle.toml.specs.Data.{Data}
use Rattle.ibp_algebra.specs.Laurent.{power_at, same_powers}
use Rattle.mono_order.specs.declared.limits.TheConstants.{VARIABLES}
use Rattle.sector_lattice.specs.declared.integral.TheConstants.{POWER}
use Rattle.sector_lattice.specs.Ranges.{InRange}
use Rattle.family.specs.declared.limits.TheConstants.{LEAST_POWER, GREATEST_POWER, TARGET_LIMIT}
use Rattle.family_file.specs.declared.fault.FileFault.{FileFault}
use Rattle.family_file.specs.declared.fault.FileFault.TheVariants.{Targets}
use Rattle.family_file.specs.Reading.{collect}
use Rattle.family_file.specs.Arrays.{power_in, powers_from, powers_in, integer_in, list_in, targets_in, first_occurrences, targets_of}
use Rattle.family.specs.Shapes.{ArePowers}
use Rattle.family_file.proofs.FirstOccurrences.{first_occurrences_each, first_occurrences_length, first_occurrences_distinct}
use Rattle.family_file.proofs.Binds.{bind_ok, where_ok, unless_ok, whole_within, collect_each, collect_length}
use Rattle.ibp_base.proofs.Tests.{same_ok}
use Rattle.ibp_base.proofs.Members.{All-each}

pub record IsPower (z : ℤ) : Type 0 where
  pub low : LEAST_POWER ≤ℤ z
  pub high : z ≤ℤ GREATEST_POWER

power_in_range : (fault : FileFault) (d : Data) (z : ℤ) → power_in fault d ≡ Ok z → IsPower z
unfolding power_in
power_in_range fault d z h =
    let read = bind_ok (integer_in fault d) _ z h in
    let sides = whole_within fault LEAST_POWER GREATEST_POWER read.0 z read.1.1 in
    record { low = le_z_yes (T_from_true _ sides.0); high = le_z_yes (T_from_true _ sides.1) }

pub lows : (zs : List ℤ) → AllByRecursion IsPower zs → (i : ℕ) → LEAST_POWER ≤ℤ power_at zs i
lows [] h i = le_z_yes tt
lows (z ∷ zs) h zero = h.0.low
lows (z ∷ zs) h (suc i) = lows zs h.1 i

pub highs : (zs : List ℤ) → AllByRecursion IsPower zs → (i : ℕ) → power_at zs i ≤ℤ GREATEST_POWER
highs [] h i = le_z_yes tt
highs (z ∷ zs) h zero = h.0.high
highs (z ∷ zs) h (suc i) = highs zs h.1 i

pub powers_are : (fault : FileFault) (n : ℕ) (ds : List Data) (zs : List ℤ) → powers_from fault n ds ≡ Ok zs → ArePowers n zs
unfolding powers_from
powers_are fault n ds zs h =
    let read = where_ok (length ds == n) (collect (power_in fault) ds) fault zs h in
    let each = collect_each IsPower (power_in fault) (power_in_range fault) ds zs read.1 in
    let many : length ds ≡ n = grind (arith, nat_tests, read.0) in
    record { count = collect_length (power_in fault) ds zs read.1 ∙ many; low = lows zs each; high = highs zs each }

goes_through : (low mid high : ℤ) → low ≤ℤ mid → mid ≤ℤ high → low ≤ℤ high
goes_through low mid high below above = omega (arith, ints)

wide : (z : ℤ) → IsPower z → (neg_ℤ POWER ≤ℤ z) × (z ≤ℤ POWER)
wide z h = (goes_through (neg_ℤ POWER) LEAST_POWER z (le_z_yes tt) h.low, goes_through z GREATEST_POWER POWER h.high (le_z_yes tt))

pub powers_in_range : (fault : FileFault) (n : ℕ) (ds : List Data) (zs : List ℤ) → 1 ≤ n → n ≤ VARIABLES → powers_from fault n ds ≡ Ok zs → InRange zs
unfolding powers_from
powers_in_range fault n ds zs some few h =
    let read = where_ok (length ds == n) (collect (power_in fault) ds) fault zs h in
    let each = All-each IsPower zs (collect_each IsPower (power_in fault) (power_in_range fault) ds zs read.1) in
    let many : length ds ≡ n = grind (arith, nat_tests, read.0) in
    let long : length zs ≡ n = collect_length (power_in fault) ds zs read.1 ∙ many in
    record { some = omega (arith, long, some); few = omega (arith, long, few); small = λ k d below. wide _ (each k d below) }

pub powers_in_are : (fault : FileFault) (n : ℕ) (d : Data) (zs : List ℤ) → powers_in fault n d ≡ Ok zs → ArePowers n zs
unfolding powers_in
powers_in_are fault n d zs h =
    let read = bind_ok (list_in fault d) _ zs h in
    powers_are fault n read.0 zs read.1.1

-- ---- targets

pub record AreTargets (n : ℕ) (targets : List (List ℤ)) : Type 0 where
  pub few : length targets ≤ TARGET_LIMIT
  pub each : All (ArePowers n) targets
  pub distinct : IsDistinct same_powers targets

pub targets_are : (n : ℕ) (ds : List Data) (ts : List (List ℤ)) → targets_of n ds ≡ Ok ts → AreTargets n ts
unfolding targets_of
targets_are n ds ts h =
    let within = unless_ok (nat_lt TARGET_LIMIT (length ds)) (targets_in n ds) Targets ts h in
    let read = bind_ok (collect (powers_in Targets n) ds) _ ts within.1 in
    let first : first_occurrences read.0 ≡ ts = same_ok _ _ read.1.1 in
    let each = collect_each (ArePowers n) (powers_in Targets n) (powers_in_are Targets n) ds read.0 read.1.0 in
    let many : length read.0 ≡ length ds = collect_length (powers_in Targets n) ds read.0 read.1.0 in
    let few : length ds ≤ TARGET_LIMIT = grind (arith, nat_tests, within.0) in
    subst (AreTargets n) first (record {
      few = omega (arith, first_occurrences_length read.0, many, few);
      each = All-each (ArePowers n) (first_occurrences read.0) (first_occurrences_each (ArePowers n) read.0 each);
      distinct = first_occurrences_distinct read.0;
    })
