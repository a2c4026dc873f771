-- What is distinct stays distinct without the places of a cut, where all agree there.
use Rattle.std.proofs.Common.{◌≡◌, ℕ, zero, suc, ◌+◌, ◌*◌, ◌/◌, ◌%◌, ◌^◌, ◌<◌, Bool, true, false, cond, List, [], ◌∷◌, length, drop, refl, sym, ◌∙◌, ap, arith}
use Rattle.std.specs.Prelude.{ℤ, pos, min, bit_and, slice_index_or, ◌==◌}
use Rattle.std.specs.Int.{bit_at}
use Rattle.std.specs.Ordering.{int_eq}
use Rattle.std.specs.List.{list_all}
use Rattle.std.specs.Bool.{Decides}
use Rattle.std.specs.Cmp.{signed_Decides}
use Rattle.std.specs.Cmp.Lexicographic.{pointwise_decides}
use Rattle.std.proofs.lemmas.Bool.{false≢true}
use Rattle.std.proofs.lemmas.Bool.Decides.{nat_tests}
use Rattle.std.proofs.lemmas.Nat.{and_shr}
use Rattle.std.proofs.lemmas.Nat.Bits.{bit_at_and, bit_at_lowest}
use Rattle.ibp_base.proofs.Tests.{both_true}
use Rattle.ibp_algebra.specs.Laurent.{same_powers}
use Rattle.sector_lattice.specs.Subsectors.{is_subsector}
use Rattle.sector_lattice.proofs.Digits.{half_below}
use Rattle.family.specs.declared.parts.SectorCaps.{SectorCaps}
use Rattle.family.specs.Caps.{have_one_sector}
use Rattle.family.specs.Limits.{CapsWithin}
use Rattle.family.specs.Shapes.{ArePowers}
use Rattle.cut_family.specs.Places.{is_cut, outside, inside, without_cut}
use Rattle.cut_family.specs.Cutting.{is_on_cut}

powers_decide : (s t : List ℤ) → Decides (same_powers s t) (s ≡ t)
powers_decide = pointwise_decides signed_Decides

abbrev one : ℤ → Bool
one power = int_eq power (pos 1)

same_outside : (cut : ℕ) (a b : List ℤ) → length a ≡ length b → is_on_cut cut a ≡ true → is_on_cut cut b ≡ true → outside cut a ≡ outside cut b → a ≡ b
same_outside cut [] [] long h k e = refl
same_outside cut [] (y ∷ b) long h k e = absurd (omega (arith, long))
same_outside cut (x ∷ a) [] long h k e = absurd (omega (arith, long))
same_outside cut (x ∷ a) (y ∷ b) long h k e =
    let rest = same_outside (cut / 2) a b (let l : suc (length a) ≡ suc (length b) = long in omega arith) in
    (elim (is_cut cut) as (λ c. list_all one (cond c (x ∷ inside (cut / 2) a) (inside (cut / 2) a)) ≡ true → list_all one (cond c (y ∷ inside (cut / 2) b) (inside (cut / 2) b)) ≡ true
    → cond c (outside (cut / 2) a) (x ∷ outside (cut / 2) a) ≡ cond c (outside (cut / 2) b) (y ∷ outside (cut / 2) b) → x ∷ a ≡ y ∷ b) [
      | true ↦ λ h k e.
          let p = both_true (one x) (list_all one (inside (cut / 2) a)) h in
          let q = both_true (one y) (list_all one (inside (cut / 2) b)) k in
          let first : x ≡ y = (signed_Decides x (pos 1)).0 p.0 ∙ sym ((signed_Decides y (pos 1)).0 q.0) in
          let others : a ≡ b = rest p.1 q.1 e in
          λ i. first i ∷ others i
      | false ↦ λ h k e.
          let first : x ≡ y = ap (λ l. slice_index_or l 0 x) e in
          let others : a ≡ b = rest h k (ap (λ l. drop 1 l) e) in
          λ i. first i ∷ others i
    ]) h k e

pub powers_apart : (n cut : ℕ) (a b : List ℤ) → ArePowers n a → ArePowers n b → is_on_cut cut a ≡ true → is_on_cut cut b ≡ true → same_powers a b ≡ false → same_powers (outside cut a) (outside cut b) ≡ false
powers_apart n cut a b p q h k apart =
    elim (same_powers (outside cut a) (outside cut b)) as (λ r. same_powers (outside cut a) (outside cut b) ≡ r → r ≡ false) [
      | true ↦ λ e. absurd (false≢true (sym apart ∙ (powers_decide a b).1 (same_outside cut a b (p.count ∙ sym q.count) h k ((powers_decide (outside cut a) (outside cut b)).0 e))))
      | false ↦ λ e. refl
    ] refl

member_digit : (cut s : ℕ) → cut % 2 ≡ 1 → bit_and cut s ≡ cut → s % 2 ≡ 1
member_digit cut s odd h =
    let both : bit_at (bit_and cut s) 0 ≡ min (bit_at cut 0) (bit_at s 0) = bit_at_and cut s 0 in
    let whole : bit_at (bit_and cut s) 0 ≡ cut % 2 = ap (λ x. bit_at x 0) h ∙ bit_at_lowest cut in
    omega (arith, both, whole, bit_at_lowest cut, bit_at_lowest s, odd)

halved : (cut s : ℕ) → bit_and cut s ≡ cut → bit_and (cut / 2) (s / 2) ≡ cut / 2
halved cut s h = sym (and_shr cut s 1) ∙ ap (λ x. x / 2) h

same_without : (n cut s t : ℕ) → s < 2 ^ n → t < 2 ^ n → bit_and cut s ≡ cut → bit_and cut t ≡ cut → without_cut n cut s ≡ without_cut n cut t → s ≡ t
same_without zero cut s t p q h k e = let none : s < 1 = p in let also : t < 1 = q in omega arith
same_without (suc n) cut s t p q h k e =
    let rest = same_without n (cut / 2) (s / 2) (t / 2) (half_below s n p) (half_below t n q) (halved cut s h) (halved cut t k) in
    (elim (is_cut cut) as (λ c. is_cut cut ≡ c → cond c (without_cut n (cut / 2) (s / 2)) (s % 2 + 2 * without_cut n (cut / 2) (s / 2)) ≡ cond c (without_cut n (cut / 2) (t / 2)) (t % 2 + 2 * without_cut n (cut / 2) (t / 2)) → s ≡ t) [
      | true ↦ λ c e.
          let odd : cut % 2 ≡ 1 = grind (arith, nat_tests, c) in
          omega (arith, rest e, member_digit cut s odd h, member_digit cut t odd k)
      | false ↦ λ c e.
          let others : s / 2 ≡ t / 2 = rest (omega (arith, e)) in
          omega (arith, e, others)
    ]) refl e

pub caps_apart : (n cut : ℕ) (a b : SectorCaps) → CapsWithin n a → CapsWithin n b → is_subsector cut a.sector.0 ≡ true → is_subsector cut b.sector.0 ≡ true → have_one_sector a b ≡ false
    → (without_cut n cut a.sector.0 == without_cut n cut b.sector.0) ≡ false
caps_apart n cut a b p q h k apart =
    let s = a.sector.0 in
    let t = b.sector.0 in
    let within : bit_and cut s ≡ cut = grind (arith, nat_tests, h) in
    let also : bit_and cut t ≡ cut = grind (arith, nat_tests, k) in
    elim (without_cut n cut s == without_cut n cut t) as (λ r. (without_cut n cut s == without_cut n cut t) ≡ r → r ≡ false) [
      | true ↦ λ e.
          let same : without_cut n cut s ≡ without_cut n cut t = grind (arith, nat_tests, e) in
          let one_sector : s ≡ t = same_without n cut s t p.below q.below within also same in
          let other : ¬ (s ≡ t) = λ eq. grind (arith, nat_tests, apart, eq) in
          absurd (other one_sector)
      | false ↦ λ e. refl
    ] refl
