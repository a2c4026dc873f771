-- The supersectors as listed are the proper supersectors, in the sector order.
use Rattle.std.proofs.Common.{◌≡◌, ◌≢◌, inl, inr, ℕ, ◌+◌, ◌-◌, ◌<◌, ◌≤◌, ◌^◌, Bool, true, false, cond, not, ◌&&◌, [], ◌∷◌, refl, sym, ◌∙◌, ap, subst, arith}
use Rattle.std.specs.Prelude.{count_ones, bit_and, Contains, ◌==◌}
use Rattle.std.specs.Ordering.{nat_cmp, ordering_then}
use Rattle.std.specs.declared.cmp.Ordering.TheVariants.{Less}
use Rattle.std.specs.List.Sorted.{IsStrictlySortedBy}
use Rattle.std.specs.Int.Count.{ones-le}
use Rattle.std.proofs.lemmas.Bool.Decides.{nat_tests}
use Rattle.ibp_base.proofs.Members.{in_cases, in_head, in_none}
use Rattle.ibp_base.proofs.Ascending.{sorted_cons, sorted_none}
use Rattle.sector_lattice.specs.Sectors.{sector_cmp, IsProperSubsector, AreSupersectors}
use Rattle.sector_lattice.specs.Orders.{shared_digits, from_shared_digits}
use Rattle.sector_lattice.specs.Above.{is_above, one_above, of_lines, all_above}
use Rattle.sector_lattice.proofs.Joining.{from_joined, in_joined, joined_sorted}
use Rattle.sector_lattice.proofs.Layering.{nat_less, nat_equal}

-- another sector that has so many lines and lies above
record StandsAbove (sector members outer : ℕ) : Type 0 where
  pub lines : count_ones outer ≡ members
  pub proper : IsProperSubsector sector outer

three_tests : (ones members outer sector both : ℕ) → (ones == members) && (not (outer == sector) && (both == sector)) ≡ true → (ones ≡ members) × (sector ≢ outer) × (both ≡ sector)
three_tests ones members outer sector both h = (grind (arith, nat_tests), (λ e. let f : outer ≡ sector = sym e in grind (arith, nat_tests)), grind (arith, nat_tests))

all_tests : (ones members outer sector both : ℕ) → ones ≡ members → (sector ≢ outer) → both ≡ sector → (ones == members) && (not (outer == sector) && (both == sector)) ≡ true
all_tests ones members outer sector both a b c = let d : outer ≢ sector = λ e. b (sym e) in grind (arith, nat_tests)

from_test : (sector members outer : ℕ) → is_above sector members outer ≡ true → StandsAbove sector members outer
from_test sector members outer h =
    let all = three_tests (count_ones outer) members outer sector (bit_and sector outer) h in
    let proper : IsProperSubsector sector outer = record { within = from_shared_digits sector outer all.2; other = all.1 } in
    record { lines = all.0; proper = proper }

to_test : (sector members outer : ℕ) → StandsAbove sector members outer → is_above sector members outer ≡ true
to_test sector members outer h = all_tests (count_ones outer) members outer sector (bit_and sector outer) h.lines h.proper.other (shared_digits sector outer h.proper.within)

from_one : (b : Bool) (sector members outer x : ℕ) → is_above sector members outer ≡ b → Contains (cond b (outer ∷ []) []) x → (outer ≡ x) × StandsAbove sector members outer
from_one true sector members outer x test h = elim (in_cases outer [] x h) [ inl same ↦ (same, from_test sector members outer test) | inr nowhere ↦ absurd (in_none x nowhere) ]
from_one false sector members outer x test h = absurd (in_none x h)

in_one : (sector members outer : ℕ) → StandsAbove sector members outer → Contains (one_above sector members outer) outer
in_one sector members outer h = subst (λ b. Contains (cond b (outer ∷ []) []) outer) (sym (to_test sector members outer h)) (in_head outer [] outer refl)

record IsOfLines (sector n members x : ℕ) : Type 0 where
  pub below : ℕ
  pub few : below < 2 ^ n
  pub is : x ≡ 2 ^ n - 1 - below
  pub stands : StandsAbove sector members x

from_lines : (sector n members x : ℕ) → Contains (of_lines sector n members) x → IsOfLines sector n members x
from_lines sector n members x h =
    let found : (i : ℕ) × ((i < 2 ^ n) × Contains (one_above sector members (2 ^ n - 1 - i)) x) = from_joined (λ below. one_above sector members (2 ^ n - 1 - below)) (2 ^ n) x h in
    let one : (2 ^ n - 1 - found.0 ≡ x) × StandsAbove sector members (2 ^ n - 1 - found.0) = from_one (is_above sector members (2 ^ n - 1 - found.0)) sector members (2 ^ n - 1 - found.0) x refl found.1.1 in
    record { below = found.0; few = found.1.0; is = sym one.0; stands = subst (StandsAbove sector members) one.0 one.1 }

in_lines : (sector n members x : ℕ) → x < 2 ^ n → StandsAbove sector members x → Contains (of_lines sector n members) x
in_lines sector n members x low h =
    let same : x ≡ 2 ^ n - 1 - (2 ^ n - 1 - x) = omega arith in
    in_joined (λ below. one_above sector members (2 ^ n - 1 - below)) (2 ^ n) (2 ^ n - 1 - x) x (omega arith) (subst (λ y. Contains (one_above sector members y) x) same (in_one sector members x h))

more_lines : (x y : ℕ) → count_ones y < count_ones x → sector_cmp x y ≡ Less
unfolding sector_cmp
more_lines x y h = ap (λ o. ordering_then o (nat_cmp y x)) (nat_less (count_ones y) (count_ones x) h)

greater_number : (x y : ℕ) → count_ones x ≡ count_ones y → y < x → sector_cmp x y ≡ Less
unfolding sector_cmp
greater_number x y e h = ap (λ o. ordering_then o (nat_cmp y x)) (ap (nat_cmp (count_ones y)) e ∙ nat_equal (count_ones y)) ∙ nat_less y x h

one_sorted : (b : Bool) (x : ℕ) → IsStrictlySortedBy sector_cmp (cond b (x ∷ []) [])
one_sorted true x = sorted_cons sector_cmp x [] (λ y h. absurd (in_none y h)) (sorted_none sector_cmp)
one_sorted false x = sorted_none sector_cmp

lines_sorted : (sector n members : ℕ) → IsStrictlySortedBy sector_cmp (of_lines sector n members)
lines_sorted sector n members =
    joined_sorted sector_cmp (λ below. one_above sector members (2 ^ n - 1 - below)) (2 ^ n)
    (λ i _. one_sorted (is_above sector members (2 ^ n - 1 - i)) (2 ^ n - 1 - i))
    (λ i j x y less few inside other.
    let a : (2 ^ n - 1 - i ≡ x) × StandsAbove sector members (2 ^ n - 1 - i) = from_one (is_above sector members (2 ^ n - 1 - i)) sector members (2 ^ n - 1 - i) x refl inside in
    let b : (2 ^ n - 1 - j ≡ y) × StandsAbove sector members (2 ^ n - 1 - j) = from_one (is_above sector members (2 ^ n - 1 - j)) sector members (2 ^ n - 1 - j) y refl other in
    let x_is : 2 ^ n - 1 - i ≡ x = a.0 in
    let y_is : 2 ^ n - 1 - j ≡ y = b.0 in
    greater_number x y (ap count_ones (sym x_is) ∙ a.1.lines ∙ sym b.1.lines ∙ ap count_ones y_is) (omega arith))

pub all_above_are : (sector n : ℕ) → AreSupersectors sector n (all_above sector n)
all_above_are sector n = record {
  members = λ outer. (
    (λ h.
        let found : (i : ℕ) × ((i < n + 1) × Contains (of_lines sector n (n - i)) outer) = from_joined (λ missing. of_lines sector n (n - missing)) (n + 1) outer h in
        let one : IsOfLines sector n (n - found.0) outer = from_lines sector n (n - found.0) outer found.1.1 in
        let is : outer ≡ 2 ^ n - 1 - one.below = one.is in
        let few : one.below < 2 ^ n = one.few in
        (omega arith, one.stands.proper)),
    (λ h.
        let low : outer < 2 ^ n = h.0 in
        let ones : count_ones outer ≤ n = ones-le n outer low in
        let same : count_ones outer ≡ n - (n - count_ones outer) = omega arith in
        in_joined (λ missing. of_lines sector n (n - missing)) (n + 1) (n - count_ones outer) outer (omega arith) (in_lines sector n (n - (n - count_ones outer)) outer low (record { lines = same; proper = h.1 }))),
  );
  ascending = joined_sorted sector_cmp (λ missing. of_lines sector n (n - missing)) (n + 1)
      (λ i _. lines_sorted sector n (n - i))
      (λ i j x y less few inside other.
      let a : IsOfLines sector n (n - i) x = from_lines sector n (n - i) x inside in
      let b : IsOfLines sector n (n - j) y = from_lines sector n (n - j) y other in
      let x_has : count_ones x ≡ n - i = a.stands.lines in
      let y_has : count_ones y ≡ n - j = b.stands.lines in
      more_lines x y (omega arith));
}
