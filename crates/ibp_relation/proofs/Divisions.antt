-- The search for the first variable of the sector that does not divide its polynomial.
use Rattle.std.proofs.Common.{◌≡◌, ℕ, ◌+◌, ◌-◌, ◌<◌, true, List, [], length, get_or, Some, sym, ap, subst, ◌∙◌, arith, below_more}
use Rattle.std.specs.Prelude.{ℤ, pos, ◌<ℤ◌, ◌≤ℤ◌}
use Rattle.std.specs.List.{slice_get}
use Rattle.std.specs.declared.cmp.Ordering.{Ordering}
use Rattle.std.specs.declared.cmp.Ordering.TheVariants.{Less, Equal, Greater}
use Rattle.std.specs.Ordering.{int_cmp, is_lt, MatchOrdering}
use Rattle.std.specs.Cmp.{int_cmp_is, int_ranks}
use Rattle.std.proofs.lemmas.Int.{ints}
use Rattle.std.proofs.lemmas.Option.{get_or_from_slice_get}
use Rattle.std.proofs.lemmas.List.{get_or_default}
use Rattle.ibp_algebra.specs.Polynomial.{Polynomial, IsDivisibleBy}
use Rattle.ibp_algebra.specs.Laurent.{power_at}
use Rattle.ibp_algebra.specs.Field.{IsDividedAt}
use Rattle.ibp_algebra.specs.Identity.{in_sector_of}
use Rattle.sector_lattice.specs.Sectors.{sector_of}
use Rattle.family.specs.Conditions.{in_sector}
use Rattle.family.proofs.Places.{in_sector-sector_of}
use Rattle.ibp_relation.specs.Conditions.{IsFirstUndivided}

is_less : (A B C : Type 0) (r : Ordering) → MatchOrdering r A B C → is_lt r ≡ true → A
is_less A B C Less h e = h
is_less A B C Equal h e = absurd (cc)
is_less A B C Greater h e = absurd (cc)

-- a place is in the sector where its power is positive
positive_when : (α : List ℤ) (i : ℕ) → in_sector_of α i ≡ true → pos 0 <ℤ power_at α i
positive_when α i e = is_less _ _ _ (int_cmp (pos 0) (power_at α i)) (int_ranks (pos 0) (power_at α i)) e

in_sector_when : (α : List ℤ) (i : ℕ) (x : ℤ) → slice_get α i ≡ Some x → pos 0 <ℤ x → in_sector_of α i ≡ true
in_sector_when α i x e h =
    let value : power_at α i ≡ x = get_or_from_slice_get α i x (pos 0) e in
    let positive : pos 0 <ℤ power_at α i = rw value h in
    ap is_lt (sym (int_cmp_is (pos 0) (power_at α i) Less positive))

outside_when : (α : List ℤ) (i : ℕ) (x : ℤ) → slice_get α i ≡ Some x → x ≤ℤ pos 0 → in_sector_of α i ≡ true → ⊥
outside_when α i x e h inside =
    let value : power_at α i ≡ x = get_or_from_slice_get α i x (pos 0) e in
    let positive : pos 0 <ℤ x = rw (sym value) (positive_when α i inside) in
    omega (arith, ints)

-- the polynomial that the loop reads
read_at : (a : List Polynomial) (place : ℕ) (f : Polynomial) → place < length a → f ≡ get_or a place f → get_or a place [] ≡ f
read_at a place f within is = get_or_default a place [] f within ∙ sym is

pub found_first : (α : List ℤ) (a : List Polynomial) (place : ℕ) (f : Polynomial) (x : ℤ) → place < length a → f ≡ get_or a place f
    → slice_get α (place + 1 - 1) ≡ Some x → pos 0 <ℤ x → ¬ (IsDivisibleBy (place + 1 - 1) f) → ((j : ℕ) → j < place → IsDividedAt (in_sector (sector_of α)) a j)
    → IsFirstUndivided (in_sector (sector_of α)) a (place + 1)
found_first α a place f x within is e h undivided earlier =
    let same : place + 1 - 1 ≡ place = omega arith in
    let poly : get_or a (place + 1 - 1) [] ≡ f = ap (λ j. get_or a j []) same ∙ read_at a place f within is in
    record {
      some = omega arith;
      within = omega arith;
      in_sector = in_sector-sector_of α (place + 1 - 1) ∙ in_sector_when α (place + 1 - 1) x e h;
      undivided = λ d. undivided (subst (λ (g : Polynomial). IsDivisibleBy (place + 1 - 1) g) poly d);
      earlier = λ j below. earlier j (omega arith);
    }

-- a place that the search passes
pub passed_divided : (α : List ℤ) (a : List Polynomial) (place : ℕ) (f : Polynomial) → place < length a → f ≡ get_or a place f
    → IsDivisibleBy (place + 1 - 1) f → ((j : ℕ) → j < place → IsDividedAt (in_sector (sector_of α)) a j) → (j : ℕ) → j < place + 1 → IsDividedAt (in_sector (sector_of α)) a j
passed_divided α a place f within is divided earlier =
    let same : place + 1 - 1 ≡ place = omega arith in
    below_more _ _ earlier
    (λ inside. subst (λ (g : Polynomial). IsDivisibleBy place g) (sym (read_at a place f within is)) (subst (λ j. IsDivisibleBy j f) same divided))

pub passed_outside : (α : List ℤ) (a : List Polynomial) (place : ℕ) (x : ℤ) → slice_get α (place + 1 - 1) ≡ Some x → x ≤ℤ pos 0
    → ((j : ℕ) → j < place → IsDividedAt (in_sector (sector_of α)) a j) → (j : ℕ) → j < place + 1 → IsDividedAt (in_sector (sector_of α)) a j
passed_outside α a place x e h earlier =
    let same : place + 1 - 1 ≡ place = omega arith in
    below_more _ _ earlier (λ inside. absurd (outside_when α place x (subst (λ j. slice_get α j ≡ Some x) same e) h (sym (in_sector-sector_of α place) ∙ inside)))
