-- Caps of sectors that are read are within their limits, and each is for another sector.
use Rattle.std.proofs.Common.{◌≡◌, ℕ, ◌<◌, ◌≤◌, ◌^◌, Bool, true, false, not, ◌||◌, List, [], ◌∷◌, length, Ok, Option, Some, None, refl, subst, arith}
use Rattle.std.specs.Prelude.{nat_lt, codes}
use Rattle.std.specs.List.{All, AllByRecursion, IsDistinct, list_any}
use Rattle.std.proofs.lemmas.Bool.Decides.{nat_tests}
use Rattle.toml.specs.Data.{Data, Members}
use Rattle.sector_lattice.specs.declared.sector.Sector.{Sector}
use Rattle.family.specs.declared.limits.TheConstants.{CAP_LIMIT, SECTOR_CAPS_LIMIT}
use Rattle.family.specs.declared.parts.SectorCaps.{SectorCaps}
use Rattle.family.specs.Caps.{have_one_sector}
use Rattle.family.specs.Limits.{CapsWithin}
use Rattle.family_file.specs.declared.fault.FileFault.TheVariants.{Limits}
use Rattle.family_file.specs.Reading.{collect}
use Rattle.family_file.specs.Table.{has_only, member_in, table_in}
use Rattle.family_file.specs.Arrays.{integer_in, are_distinct}
use Rattle.family_file.specs.Caps.{caps_names, sector_at, cap_at, caps_at, caps_in, caps_of}
use Rattle.family_file.proofs.Binds.{bind_ok, if_ok, unless_ok, where_ok, natural_within, collect_each, collect_length}
use Rattle.family_file.proofs.SectorLimits.{sector_is}
use Rattle.ibp_base.proofs.Tests.{same_ok, not_false, both_true}
use Rattle.ibp_base.proofs.Members.{All-each}

-- ---- one entry

sector_below : (n : ℕ) (table : Members) (sector : Sector) → sector_at n table ≡ Ok sector → sector.0 < 2 ^ n
unfolding sector_at
sector_below n table sector h =
    let found = bind_ok (member_in Limits (codes "sector") table) _ sector h in
    (sector_is Limits n found.0 sector found.1.1).below

cap_within : (key : List ℕ) (table : Members) (cap : ℕ) → cap_at key table ≡ Ok cap → cap ≤ CAP_LIMIT
unfolding cap_at
cap_within key table cap h =
    let found = bind_ok (member_in Limits key table) _ cap h in
    let number = bind_ok (integer_in Limits found.0) _ cap found.1.1 in
    (natural_within Limits 0 CAP_LIMIT number.0 cap number.1.1).1

entry_is : (n : ℕ) (table : Members) (caps : SectorCaps) → caps_at n table ≡ Ok caps → CapsWithin n caps
unfolding caps_at
entry_is n table caps h =
    let sector = bind_ok (sector_at n table) _ caps h in
    let dots = bind_ok (cap_at (codes "dots") table) _ caps sector.1.1 in
    let rank = bind_ok (cap_at (codes "rank") table) _ caps dots.1.1 in
    subst (CapsWithin n) (same_ok _ caps rank.1.1) (record {
      below = sector_below n table sector.0 sector.1.0;
      dots = cap_within (codes "dots") table dots.0 dots.1.0;
      rank = cap_within (codes "rank") table rank.0 rank.1.0;
    })

caps_are_within : (n : ℕ) (d : Data) (caps : SectorCaps) → caps_in n d ≡ Ok caps → CapsWithin n caps
unfolding caps_in
caps_are_within n d caps h =
    let table = bind_ok (table_in Limits d) _ caps h in
    let known = where_ok (has_only caps_names table.0) (caps_at n table.0) Limits caps table.1.1 in
    entry_is n table.0 caps known.1

-- ---- all entries

none_same : {X : Type 0} (same : X → X → Bool) (x : X) (xs : List X) → list_any (same x) xs ≡ false → AllByRecursion (λ y. same x y ≡ false) xs
none_same same x [] h = tt
none_same same x (y ∷ ys) h =
    elim (same x y) as (λ b. same x y ≡ b → (b || list_any (same x) ys) ≡ false → AllByRecursion (λ z. same x z ≡ false) (y ∷ ys)) [
      | true ↦ λ e k. absurd (cc)
      | false ↦ λ e k. (e, none_same same x ys k)
    ] refl h

pub distinct_by : {X : Type 0} (same : X → X → Bool) (xs : List X) → are_distinct same xs ≡ true → IsDistinct same xs
unfolding IsDistinct
distinct_by same [] h = tt
distinct_by same (x ∷ xs) h =
    let sides = both_true (not (list_any (same x) xs)) (are_distinct same xs) h in
    (none_same same x xs (not_false (list_any (same x) xs) sides.0), distinct_by same xs sides.1)

pub record AreCaps (n : ℕ) (caps : List SectorCaps) : Type 0 where
  pub few : length caps ≤ SECTOR_CAPS_LIMIT
  pub each : All (CapsWithin n) caps
  pub distinct : IsDistinct have_one_sector caps

pub caps_are : (n : ℕ) (ds : Option (List Data)) (caps : List SectorCaps) → caps_of n ds ≡ Ok caps → AreCaps n caps
unfolding caps_of
caps_are n None caps h = subst (AreCaps n) (same_ok [] caps h) (record { few = omega arith; each = λ k d below. absurd (omega arith); distinct = distinct_by have_one_sector [] refl })
caps_are n (Some ds) caps h =
    let within = unless_ok (nat_lt SECTOR_CAPS_LIMIT (length ds)) _ Limits caps h in
    let read = bind_ok (collect (caps_in n) ds) _ caps within.1 in
    let made = if_ok (are_distinct have_one_sector read.0) read.0 caps Limits read.1.1 in
    let many : length read.0 ≡ length ds = collect_length (caps_in n) ds read.0 read.1.0 in
    let few : length ds ≤ SECTOR_CAPS_LIMIT = grind (arith, nat_tests, within.0) in
    subst (AreCaps n) made.1 (record {
      few = omega (arith, many, few);
      each = All-each (CapsWithin n) read.0 (collect_each (CapsWithin n) (caps_in n) (caps_are_within n) ds read.0 read.1.0);
      distinct = distinct_by have_one_sector read.0 made.0;
    })
