-- Weighted sums are linear, and determined by the coefficients: two formal sums have the same coefficients
-- exactly where all their weighted sums are congruent. Each law of formal sums is proved through this.
use Rattle.std.proofs.Common.{◌≡◌, ℕ, zero, suc, ◌+◌, ◌*◌, ◌≤◌, Bool, true, false, if◌then◌else◌, [], ◌∷◌, ◌++◌, length, sym, refl, ap, ◌∙◌, arith}
use Rattle.std.specs.Bool.{Decides}
use Rattle.std.specs.List.{sum_by}
use Rattle.std.specs.List.Sorted.{IsPermutation}
use Rattle.std.proofs.lemmas.List.Sums.{sum_by-cons}
use Rattle.std.proofs.lemmas.List.Sorted.{sum_by-IsPermutation}
use Rattle.ibp_field.specs.Arithmetic.{IsCongruent}
use Rattle.ibp_algebra.specs.FormalSum.{FormalSum, weighted_sum, SameCoefficients, scale, map_keys, times_term, product}
use Rattle.ibp_field.proofs.Congruence.{IsCongruent-refl, IsCongruent-trans, IsCongruent-mul, IsCongruent-add, IsCongruent-from_eq}

module _ {K : Type 0} where
  pub weighted_sum-append : (w : K → ℕ) (f g : FormalSum K) → weighted_sum w (f ++ g) ≡ weighted_sum w f + weighted_sum w g
  weighted_sum-append w [] g = omega arith
  weighted_sum-append w (t ∷ f) g = omega (arith, weighted_sum-append w f g)

  pub weighted_sum-scale : (w : K → ℕ) (c : ℕ) (f : FormalSum K) → weighted_sum w (scale c f) ≡ c * weighted_sum w f
  weighted_sum-scale w c [] = omega arith
  weighted_sum-scale w c (t ∷ f) = omega (arith, weighted_sum-scale w c f)

  -- weights that are congruent at each key give congruent sums
  pub weighted_sum-weights : (v w : K → ℕ) → ((k : K) → IsCongruent (v k) (w k)) → (f : FormalSum K) → IsCongruent (weighted_sum v f) (weighted_sum w f)
  weighted_sum-weights v w same [] = IsCongruent-refl 0
  weighted_sum-weights v w same (t ∷ f) = IsCongruent-add (IsCongruent-mul (IsCongruent-refl t.1) (same t.0)) (weighted_sum-weights v w same f)

  pub weighted_sum-ext : (v w : K → ℕ) → ((k : K) → v k ≡ w k) → (f : FormalSum K) → weighted_sum v f ≡ weighted_sum w f
  weighted_sum-ext v w same [] = refl
  weighted_sum-ext v w same (t ∷ f) = omega (arith, ap (λ n. t.1 * n) (same t.0), weighted_sum-ext v w same f)

  pub weighted_sum-add : (v w : K → ℕ) (f : FormalSum K) → weighted_sum (λ k. v k + w k) f ≡ weighted_sum v f + weighted_sum w f
  weighted_sum-add v w [] = omega arith
  weighted_sum-add v w (t ∷ f) = omega (arith, weighted_sum-add v w f)

  pub weighted_sum-mul : (c : ℕ) (w : K → ℕ) (f : FormalSum K) → weighted_sum (λ k. c * w k) f ≡ c * weighted_sum w f
  weighted_sum-mul c w [] = omega arith
  weighted_sum-mul c w (t ∷ f) = omega (arith, weighted_sum-mul c w f)

  pub weighted_sum-zero : (f : FormalSum K) → weighted_sum (λ k. 0) f ≡ 0
  weighted_sum-zero [] = refl
  weighted_sum-zero (t ∷ f) = omega (arith, weighted_sum-zero f)

  pub weighted_sum-times_term : (times : K → K → K) (w : K → ℕ) (t : K × ℕ) (g : FormalSum K)
      → weighted_sum w (times_term times t g) ≡ t.1 * weighted_sum (λ b. w (times t.0 b)) g
  weighted_sum-times_term times w t [] = omega arith
  weighted_sum-times_term times w t (u ∷ g) = omega (arith, weighted_sum-times_term times w t g)

  pub weighted_sum-product : (times : K → K → K) (w : K → ℕ) (f g : FormalSum K)
      → weighted_sum w (product times f g) ≡ weighted_sum (λ a. weighted_sum (λ b. w (times a b)) g) f
  weighted_sum-product times w [] g = refl
  weighted_sum-product times w (t ∷ f) g =
      omega (arith, weighted_sum-append w (times_term times t g) (product times f g), weighted_sum-times_term times w t g, weighted_sum-product times w f g)

-- a sum over a sum may be taken in either order
pub weighted_sum-swap : {K L : Type 0} (w : K → L → ℕ) (f : FormalSum K) (g : FormalSum L)
    → weighted_sum (λ a. weighted_sum (λ b. w a b) g) f ≡ weighted_sum (λ b. weighted_sum (λ a. w a b) f) g
weighted_sum-swap w [] g = sym (weighted_sum-zero g)
weighted_sum-swap {K} {L} w (t ∷ f) g =
    omega (arith, weighted_sum-swap w f g, weighted_sum-mul t.1 (w t.0) g, weighted_sum-add (λ (b : L). t.1 * w t.0 b) (λ (b : L). weighted_sum (λ a. w a b) f) g)

pub weighted_sum-map_keys : {K L : Type 0} (move : K → L) (w : L → ℕ) (f : FormalSum K) → weighted_sum w (map_keys move f) ≡ weighted_sum (λ k. w (move k)) f
weighted_sum-map_keys move w [] = refl
weighted_sum-map_keys move w (t ∷ f) = omega (arith, weighted_sum-map_keys move w f)

-- the weight that is 1 at one key and 0 elsewhere
abbrev pub unit_weight : {K : Type 0} → (K → K → Bool) → K → K → ℕ
unit_weight same key k = if same k key then 1 else 0

-- the terms at other keys
abbrev without : {K : Type 0} → (K → K → Bool) → K → FormalSum K → FormalSum K
without same key [] = []
without same key (term ∷ terms) = if same term.0 key then without same key terms else (term ∷ without same key terms)

module _ {K : Type 0} (same : K → K → Bool) (decides : (a b : K) → Decides (same a b) (a ≡ b)) where
  split_term : (w : K → ℕ) (key : K) (t : K × ℕ) (f : FormalSum K) (b : Bool) → same t.0 key ≡ b
      → weighted_sum w f ≡ weighted_sum (unit_weight same key) f * w key + weighted_sum w (without same key f)
      → t.1 * w t.0 + weighted_sum w f
      ≡ (t.1 * (if b then 1 else 0) + weighted_sum (unit_weight same key) f) * w key + weighted_sum w (if b then without same key f else (t ∷ without same key f))
  split_term w key t f true e h = omega (arith, h, ap (λ k. t.1 * w k) ((decides t.0 key).0 e))
  split_term w key t f false e h = omega (arith, h)

  -- the terms at one key, and the others
  split : (w : K → ℕ) (key : K) (f : FormalSum K)
      → weighted_sum w f ≡ weighted_sum (unit_weight same key) f * w key + weighted_sum w (without same key f)
  split w key [] = omega arith
  split w key (t ∷ f) = split_term w key t f (same t.0 key) refl (split w key f)

  without_length_step : (t : K × ℕ) (f : FormalSum K) (key : K) (b : Bool) → length (without same key f) ≤ length f
      → length (if b then without same key f else (t ∷ without same key f)) ≤ suc (length f)
  without_length_step t f key true h = omega arith
  without_length_step t f key false h = omega arith

  length-without : (key : K) (f : FormalSum K) → length (without same key f) ≤ length f
  length-without key [] = omega arith
  length-without key (t ∷ f) = without_length_step t f key (same t.0 key) (length-without key f)

  without_at_step : (key j : K) (t : K × ℕ) (f : FormalSum K) (b : Bool) → same t.0 key ≡ b → same key j ≡ false
      → weighted_sum (unit_weight same j) (without same key f) ≡ weighted_sum (unit_weight same j) f
      → weighted_sum (unit_weight same j) (if b then without same key f else (t ∷ without same key f))
      ≡ t.1 * (if same t.0 j then 1 else 0) + weighted_sum (unit_weight same j) f
  without_at_step key j t f true e apart h =
      let other : same t.0 j ≡ false = ap (λ k. same k j) ((decides t.0 key).0 e) ∙ apart in
      rw other (omega (arith, h))
  without_at_step key j t f false e apart h = omega (arith, h)

  -- no other coefficient changes
  without-other : (key j : K) (f : FormalSum K) → same key j ≡ false
      → weighted_sum (unit_weight same j) (without same key f) ≡ weighted_sum (unit_weight same j) f
  without-other key j [] apart = refl
  without-other key j (t ∷ f) apart = without_at_step key j t f (same t.0 key) refl apart (without-other key j f apart)

  without_same_step : (key : K) (t : K × ℕ) (f : FormalSum K) (b : Bool) → same t.0 key ≡ b
      → weighted_sum (unit_weight same key) (without same key f) ≡ 0
      → weighted_sum (unit_weight same key) (if b then without same key f else (t ∷ without same key f)) ≡ 0
  without_same_step key t f true e h = h
  without_same_step key t f false e h = rw e (omega (arith, h))

  -- and the coefficient at the key becomes zero
  without-same : (key : K) (f : FormalSum K) → weighted_sum (unit_weight same key) (without same key f) ≡ 0
  without-same key [] = refl
  without-same key (t ∷ f) = without_same_step key t f (same t.0 key) refl (without-same key f)

  -- the same, as a fact on coefficients
  without_zero : (key : K) (f : FormalSum K) → ((j : K) → IsCongruent (weighted_sum (unit_weight same j) f) 0)
      → (j : K) (b : Bool) → same key j ≡ b → IsCongruent (weighted_sum (unit_weight same j) (without same key f)) 0
  without_zero key f h j true e = let is : key ≡ j = (decides key j).0 e in rw (← is) (IsCongruent-from_eq (without-same key f))
  without_zero key f h j false e = IsCongruent-trans (IsCongruent-from_eq (without-other key j f e)) (h j)

  without_head : (t : K × ℕ) (f : FormalSum K) → without same t.0 (t ∷ f) ≡ without same t.0 f
  without_head t f = let e : same t.0 t.0 ≡ true = (decides t.0 t.0).1 refl in rw e

  -- where each coefficient is zero, so is each weighted sum
  zero_sums : (w : K → ℕ) (fuel : ℕ) (f : FormalSum K) → length f ≤ fuel
      → ((j : K) → IsCongruent (weighted_sum (unit_weight same j) f) 0) → IsCongruent (weighted_sum w f) 0
  zero_sums w fuel [] short h = IsCongruent-refl 0
  zero_sums w zero (t ∷ f) short h = absurd (omega arith)
  zero_sums w (suc fuel) (t ∷ f) short h =
      let rest = without same t.0 (t ∷ f) in
      let shorter : length rest ≤ fuel = omega (arith, ap length (without_head t f), length-without t.0 f) in
      let rest_zero : IsCongruent (weighted_sum w rest) 0 =
      zero_sums w fuel rest shorter (λ j. without_zero t.0 (t ∷ f) h j (same t.0 j) refl)
      in
      let first_zero : IsCongruent (weighted_sum (unit_weight same t.0) (t ∷ f) * w t.0) (0 * w t.0) =
      IsCongruent-mul (h t.0) (IsCongruent-refl (w t.0))
      in
      IsCongruent-trans (IsCongruent-from_eq (split w t.0 (t ∷ f))) (IsCongruent-trans (IsCongruent-add first_zero rest_zero) (IsCongruent-from_eq {a = 0 * w t.0 + 0} {b = 0} (omega arith)))

  -- the coefficients determine each weighted sum
  pub weighted_sum-SameCoefficients : (w : K → ℕ) (f g : FormalSum K) → SameCoefficients same f g → IsCongruent (weighted_sum w f) (weighted_sum w g)
  weighted_sum-SameCoefficients w f g h =
      let difference = f ++ scale 2147483646 g in
      let sum_is = λ (v : K → ℕ). weighted_sum-append v f (scale 2147483646 g) in
      let scaled_is = λ (v : K → ℕ). weighted_sum-scale v 2147483646 g in
      let zero : IsCongruent (weighted_sum w difference) 0 =
      zero_sums w (length difference) difference (omega arith)
      (λ j. record { same_residue = omega (arith, sum_is (unit_weight same j), scaled_is (unit_weight same j), h.same_at j) })
      in
      record { same_residue = omega (arith, sum_is w, scaled_is w) }

  -- and the weighted sums determine the coefficients
  pub SameCoefficients-from_weights : (f g : FormalSum K) → ((w : K → ℕ) → IsCongruent (weighted_sum w f) (weighted_sum w g)) → SameCoefficients same f g
  SameCoefficients-from_weights f g h = record { same_at = λ key. (h (unit_weight same key)).same_residue }

-- a weighted sum as a sum of std
pub weighted_sum-is : {K : Type 0} (w : K → ℕ) (f : FormalSum K) → weighted_sum w f ≡ sum_by (λ (t : K × ℕ). t.1 * w t.0) f
weighted_sum-is w [] = refl
weighted_sum-is {K} w (t ∷ f) = omega (arith, weighted_sum-is w f, sum_by-cons (λ (t : K × ℕ). t.1 * w t.0) t f)

-- the order of the terms does not matter
pub weighted_sum-IsPermutation : {K : Type 0} (w : K → ℕ) (f g : FormalSum K) → IsPermutation f g → weighted_sum w g ≡ weighted_sum w f
weighted_sum-IsPermutation {K} w f g h = weighted_sum-is w g ∙ sum_by-IsPermutation (λ (t : K × ℕ). t.1 * w t.0) f g h ∙ sym (weighted_sum-is w f)
