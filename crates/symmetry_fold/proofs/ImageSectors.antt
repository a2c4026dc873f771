-- The image of a sector digit by digit, and that images keep subsectors.
use Rattle.std.proofs.Common.{◌≡◌, ◌⊎◌, ℕ, zero, suc, ◌+◌, ◌-◌, ◌*◌, ◌<◌, ◌≤◌, ◌^◌, ◌%◌, List, refl, sym, ap, ◌∙◌, inl, inr, subst, arith, pow-suc}
use Rattle.std.proofs.Math.Pow.{pow_mono}
use Rattle.std.specs.Int.{bit_at}
use Rattle.std.proofs.lemmas.Nat.Bits.{bit_at_lowest, bit_at-lt, bit_at_above, bit_at_cat_low, bit_at_cat_high}
use Rattle.sector_lattice.specs.Sectors.{IsMember, IsSubsector}
use Rattle.symmetry_fold.specs.Images.{place_of, image_sector}

pub digit_below : (d p s q : ℕ) → d < 2 → s < p → q ≡ 2 * p → d * p + s < q
digit_below zero p s q small h e = omega arith
digit_below (suc zero) p s q small h e = omega arith
digit_below (suc (suc d)) p s q small h e = absurd (omega arith)

pub image_below : (n : ℕ) (sigma : List ℕ) (sector : ℕ) → image_sector n sigma sector < 2 ^ n
image_below zero sigma sector = omega arith
image_below (suc n) sigma sector =
    let digit : bit_at sector (place_of sigma (suc n)) < 2 = bit_at-lt sector (place_of sigma (suc n)) in
    digit_below (bit_at sector (place_of sigma (suc n))) (2 ^ n) (image_sector n sigma sector) (2 ^ suc n) digit (image_below n sigma sector) (let e : 2 ^ suc n ≡ 2 * 2 ^ n = omega (arith, pow-suc 2 n) in e)

pub image_digit : (n : ℕ) (sigma : List ℕ) (sector k : ℕ) → k < n → bit_at (image_sector n sigma sector) k ≡ bit_at sector (place_of sigma (suc k))
image_digit zero sigma sector k inside = absurd (omega arith)
image_digit (suc n) sigma sector k inside = elim (low_or_last k n inside) [
  | inl low ↦ bit_at_cat_low (bit_at sector (place_of sigma (suc n))) n (image_sector n sigma sector) k low ∙ image_digit n sigma sector k low
  | inr last ↦
      let d : ℕ = bit_at sector (place_of sigma (suc n)) in
      let nothing : k - n ≡ 0 = omega arith in
      bit_at_cat_high d n (image_sector n sigma sector) k (image_below n sigma sector) (omega arith)
      ∙ ap (bit_at d) nothing ∙ bit_at_lowest d ∙ small d (bit_at-lt sector (place_of sigma (suc n)))
      ∙ ap (λ m. bit_at sector (place_of sigma (suc m))) (sym last)
]
  where
    low_or_last : (k n : ℕ) → k < suc n → (k < n) ⊎ (k ≡ n)
    low_or_last k n inside = grind (arith, inside)

    small : (d : ℕ) → d < 2 → d % 2 ≡ d
    small d h = omega arith

pub image_subsector : (n : ℕ) (sigma : List ℕ) (inner outer : ℕ) → IsSubsector inner outer → IsSubsector (image_sector n sigma inner) (image_sector n sigma outer)
image_subsector n sigma inner outer h = record {
  each = λ i member. (
    member.0,
    elim (inside_or_above i) [
      | inl inside ↦
          let k : ℕ = i - 1 in
          let place : ℕ = place_of sigma (suc k) in
          let back : place + 1 - 1 ≡ place = omega arith in
          let here : IsMember inner (place + 1) = (omega arith, ap (bit_at inner) back ∙ sym (image_digit n sigma inner k inside) ∙ member.1) in
          image_digit n sigma outer k inside ∙ ap (bit_at outer) (sym back) ∙ (h.each (place + 1) here).1
      | inr above ↦ absurd (zero_is_one (sym (bit_at_above (image_sector n sigma inner) n (i - 1) (image_below n sigma inner) above) ∙ member.1))
    ],
  );
}
  where
    inside_or_above : (i : ℕ) → (i - 1 < n) ⊎ (n ≤ i - 1)
    inside_or_above i = grind arith

    zero_is_one : ◌≡◌ {A = ℕ} 0 1 → ⊥
    zero_is_one e = omega arith

-- the number of a digit more, as machine words give it, is below the next power
pub number_below : (n digit others : ℕ) → 1 ≤ n → n ≤ 12 → digit < 2 → others < 2 ^ (n - 1) → others + digit * (1 * 2 ^ (n - 1) % 65536) < 2 ^ n
number_below n digit others some few small below =
    let most : 2 ^ (n - 1) ≤ 2 ^ 11 = pow_mono (let e : n - 1 ≤ 11 = omega (arith, few) in e) in
    let same : 1 * 2 ^ (n - 1) % 65536 ≡ 2 ^ (n - 1) = omega (arith, most) in
    let whole : suc (n - 1) ≡ n = omega (arith, some) in
    let double : 2 ^ n ≡ 2 * 2 ^ (n - 1) = ap (λ k. 2 ^ k) (sym whole) ∙ (let e : 2 ^ suc (n - 1) ≡ 2 * 2 ^ (n - 1) = omega (arith, pow-suc 2 (n - 1)) in e) in
    let sum = digit_below digit (2 ^ (n - 1)) others (2 ^ n) small below double in
    subst (λ p. others + digit * p < 2 ^ n) (sym same) (omega (arith, sum))
