-- Permutations that are read are within their limits: few, each of n numbers, and a group with the identity.
use Rattle.std.proofs.Common.{◌≡◌, ℕ, ◌≤◌, true, List, [], length, Ok, Option, Some, None, refl, subst, arith}
use Rattle.std.specs.Prelude.{nat_lt}
use Rattle.std.specs.List.{All}
use Rattle.std.proofs.lemmas.Bool.Decides.{nat_tests}
use Rattle.toml.specs.Data.{Data}
use Rattle.family.specs.declared.limits.TheConstants.{SYMMETRY_LIMIT}
use Rattle.family.specs.Permutation.{is_permutation, are_closed}
use Rattle.family_file.specs.declared.fault.FileFault.TheVariants.{Symmetries}
use Rattle.family_file.specs.Reading.{collect}
use Rattle.family_file.specs.Arrays.{list_in, place_in}
use Rattle.family_file.specs.Symmetries.{permutation_in, symmetries_of}
use Rattle.family_file.proofs.Binds.{bind_ok, if_ok, unless_ok, collect_each, collect_length}
use Rattle.ibp_base.proofs.Tests.{same_ok}
use Rattle.ibp_base.proofs.Members.{All-each}

is_permutation_read : (n : ℕ) (d : Data) (numbers : List ℕ) → permutation_in n d ≡ Ok numbers → is_permutation n numbers ≡ true
unfolding permutation_in
is_permutation_read n d numbers h =
    let listed = bind_ok (list_in Symmetries d) _ numbers h in
    let read = bind_ok (collect (place_in Symmetries n) listed.0) _ numbers listed.1.1 in
    let made = if_ok (is_permutation n read.0) read.0 numbers Symmetries read.1.1 in
    subst (λ ns. is_permutation n ns ≡ true) made.1 made.0

pub record AreSymmetries (n : ℕ) (entries : List (List ℕ)) : Type 0 where
  pub few : length entries ≤ SYMMETRY_LIMIT
  pub each : All (λ numbers. is_permutation n numbers ≡ true) entries
  pub closed : are_closed n entries ≡ true

pub symmetries_are : (n : ℕ) (ds : Option (List Data)) (entries : List (List ℕ)) → symmetries_of n ds ≡ Ok entries → AreSymmetries n entries
unfolding symmetries_of
symmetries_are n None entries h = subst (AreSymmetries n) (same_ok [] entries h) (record { few = omega arith; each = λ k d below. absurd (omega arith); closed = refl })
symmetries_are n (Some ds) entries h =
    let within = unless_ok (nat_lt SYMMETRY_LIMIT (length ds)) _ Symmetries entries h in
    let read = bind_ok (collect (permutation_in n) ds) _ entries within.1 in
    let made = if_ok (are_closed n read.0) read.0 entries Symmetries read.1.1 in
    let many : length read.0 ≡ length ds = collect_length (permutation_in n) ds read.0 read.1.0 in
    let few : length ds ≤ SYMMETRY_LIMIT = grind (arith, nat_tests, within.0) in
    subst (AreSymmetries n) made.1 (record {
      few = omega (arith, many, few);
      each = All-each (λ numbers. is_permutation n numbers ≡ true) read.0 (collect_each (λ numbers. is_permutation n numbers ≡ true) (permutation_in n) (is_permutation_read n) ds read.0 read.1.0);
      closed = made.0;
    })
