-- What holds of the terms of a formal sum, and what holds of the keys at which it is not zero.
use Rattle.std.proofs.Common.{◌≡◌, ◌≢◌, ℕ, ◌+◌, ◌*◌, ◌%◌, Bool, true, false, if◌then◌else◌, ◌==◌, [], ◌∷◌, ◌++◌, refl, subst, arith}
use Rattle.std.proofs.lemmas.Bool.Decides.{Decides-eqb, not_from_Decides}
use Rattle.std.specs.declared.cmp.Ordering.{Ordering}
use Rattle.std.specs.Cmp.{IsTotalOrder}
use Rattle.std.specs.Bool.{Decides}
use Rattle.ibp_algebra.specs.FormalSum.{FormalSum, weighted_sum, coefficient, AllKeys, IsCanonical}
use Rattle.ibp_algebra.proofs.Weights.{unit_weight}
use Rattle.ibp_algebra.proofs.Canonical.{coefficient-above, coefficient-lead}

-- P holds of the key of each term whose coefficient is not zero
abbrev pub CountingKeys : {K : Type 0} → (K → Type 0) → FormalSum K → Type 0
CountingKeys P [] = Unit {0}
CountingKeys P (term ∷ terms) = (term.1 % 2147483647 ≢ 0 → P term.0) × CountingKeys P terms

pub CountingKeys-append : {K : Type 0} (P : K → Type 0) (f g : FormalSum K) → CountingKeys P f → CountingKeys P g → CountingKeys P (f ++ g)
CountingKeys-append P [] g h k = k
CountingKeys-append P (t ∷ f) g h k = (h.0, CountingKeys-append P f g h.1 k)

module _ {K : Type 0} (same : K → K → Bool) (decides : (a b : K) → Decides (same a b) (a ≡ b)) where
  first_or_later : (P : K → Type 0) (key : K) (t : K × ℕ) (f : FormalSum K) (here zero : Bool) → same t.0 key ≡ here → (t.1 % 2147483647 == 0) ≡ zero
      → (t.1 % 2147483647 ≢ 0 → P t.0) → (coefficient same f key ≢ 0 → P key)
      → (t.1 * (if here then 1 else 0) + weighted_sum (unit_weight same key) f) % 2147483647 ≢ 0 → P key
  first_or_later P key t f false zero e z first later h = later (λ none. h (omega (arith, none)))
  first_or_later P key t f true true e z first later h =
      let no_term : t.1 % 2147483647 ≡ 0 = (Decides-eqb (t.1 % 2147483647) 0).0 z in
      later (λ none. h (omega (arith, none)))
  first_or_later P key t f true false e z first later h =
      subst P ((decides t.0 key).0 e) (first (not_from_Decides _ (Decides-eqb (t.1 % 2147483647) 0) z))

  -- a key at which the sum is not zero is the key of such a term
  pub coefficient-CountingKeys : (P : K → Type 0) (f : FormalSum K) → CountingKeys P f → (key : K) → coefficient same f key ≢ 0 → P key
  coefficient-CountingKeys P [] h key not_zero = absurd (not_zero refl)
  coefficient-CountingKeys P (t ∷ f) h key not_zero =
      first_or_later P key t f (same t.0 key) (t.1 % 2147483647 == 0) refl refl h.0 (coefficient-CountingKeys P f h.1 key) not_zero

  module _ (order : K → K → Ordering) (total : IsTotalOrder order) where
    in_rest : (key : K) (t : K × ℕ) (f : FormalSum K) (here : Bool) → same t.0 key ≡ here → IsCanonical order (t ∷ f)
        → coefficient same f key ≢ 0 → (t.1 * (if here then 1 else 0) + weighted_sum (unit_weight same key) f) % 2147483647 ≢ 0
    in_rest key t f false e h not_zero zero = not_zero (omega arith)
    in_rest key t f true e h not_zero zero =
        let is : t.0 ≡ key = (decides t.0 key).0 e in
        let none : weighted_sum (unit_weight same key) f ≡ 0 =
        subst (λ k. weighted_sum (unit_weight same k) f ≡ 0) is (coefficient-above order total same decides t.0 f h.2)
        in
        not_zero (omega (arith, none))

    -- each key of a canonical sum has a coefficient that is not zero
    pub AllKeys-canonical : (P : K → Type 0) (f : FormalSum K) → IsCanonical order f → ((key : K) → coefficient same f key ≢ 0 → P key) → AllKeys P f
    AllKeys-canonical P [] h at = tt
    AllKeys-canonical P (t ∷ f) h at = (
      at t.0 (λ zero. absurd (omega (arith, zero, coefficient-lead order total same decides t f h.2, h.0, h.1))),
      AllKeys-canonical P f h.3 (λ key not_zero. at key (in_rest key t f (same t.0 key) refl h not_zero)),
    )
