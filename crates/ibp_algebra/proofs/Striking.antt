-- Striking the keys that pass a test leaves the other coefficients, and a canonical sum canonical.
use Rattle.std.proofs.Common.{◌≡◌, ℕ, ◌+◌, ◌*◌, Bool, true, false, if◌then◌else◌, [], ◌∷◌, refl, ap, arith}
use Rattle.std.specs.declared.cmp.Ordering.{Ordering}
use Rattle.std.specs.Bool.{Decides}
use Rattle.ibp_algebra.specs.FormalSum.{FormalSum, weighted_sum, AllKeys, IsCanonical, strike}
use Rattle.ibp_algebra.proofs.Weights.{unit_weight}

module _ {K : Type 0} (same : K → K → Bool) (decides : (a b : K) → Decides (same a b) (a ≡ b)) (test : K → Bool) where
  -- a term whose key differs from one at which the test answers otherwise
  apart : (key k : K) (here : Bool) → same k key ≡ here → test k ≡ true → test key ≡ false → here ≡ false
  apart key k true e passes fails = let both : test k ≡ test key = ap test ((decides k key).0 e) in cc
  apart key k false e passes fails = refl

  kept_step : (key : K) (t : K × ℕ) (f : FormalSum K) (struck : Bool) → test t.0 ≡ struck → test key ≡ false
      → weighted_sum (unit_weight same key) (strike test f) ≡ weighted_sum (unit_weight same key) f
      → weighted_sum (unit_weight same key) (if struck then strike test f else (t ∷ strike test f)) ≡ t.1 * (if same t.0 key then 1 else 0) + weighted_sum (unit_weight same key) f
  kept_step key t f true e fails h =
      let other : same t.0 key ≡ false = apart key t.0 (same t.0 key) refl e fails in
      rw other (omega (arith, h))
  kept_step key t f false e fails h = omega (arith, h)

  -- a key that fails the test keeps its coefficient
  pub coefficient-strike_kept : (key : K) (f : FormalSum K) → test key ≡ false → weighted_sum (unit_weight same key) (strike test f) ≡ weighted_sum (unit_weight same key) f
  coefficient-strike_kept key [] fails = refl
  coefficient-strike_kept key (t ∷ f) fails = kept_step key t f (test t.0) refl fails (coefficient-strike_kept key f fails)

  differs : (key k : K) (here : Bool) → same k key ≡ here → test k ≡ false → test key ≡ true → here ≡ false
  differs key k true e fails passes = let both : test k ≡ test key = ap test ((decides k key).0 e) in cc
  differs key k false e fails passes = refl

  struck_step : (key : K) (t : K × ℕ) (f : FormalSum K) (struck : Bool) → test t.0 ≡ struck → test key ≡ true
      → weighted_sum (unit_weight same key) (strike test f) ≡ 0
      → weighted_sum (unit_weight same key) (if struck then strike test f else (t ∷ strike test f)) ≡ 0
  struck_step key t f true e passes h = h
  struck_step key t f false e passes h =
      let other : same t.0 key ≡ false = differs key t.0 (same t.0 key) refl e passes in
      rw other (omega (arith, h))

  -- and a key that passes it has none
  pub coefficient-strike_struck : (key : K) (f : FormalSum K) → test key ≡ true → weighted_sum (unit_weight same key) (strike test f) ≡ 0
  coefficient-strike_struck key [] passes = refl
  coefficient-strike_struck key (t ∷ f) passes = struck_step key t f (test t.0) refl passes (coefficient-strike_struck key f passes)

keys_step : {K : Type 0} (P : K → Type 0) (test : K → Bool) (t : K × ℕ) (f : FormalSum K) (struck : Bool) → P t.0 → AllKeys P (strike test f)
    → AllKeys P (if struck then strike test f else (t ∷ strike test f))
keys_step P test t f true p h = h
keys_step P test t f false p h = (p, h)

pub AllKeys-strike : {K : Type 0} (P : K → Type 0) (test : K → Bool) (f : FormalSum K) → AllKeys P f → AllKeys P (strike test f)
AllKeys-strike P test [] h = tt
AllKeys-strike P test (t ∷ f) h = keys_step P test t f (test t.0) h.0 (AllKeys-strike P test f h.1)

canonical_step : {K : Type 0} (order : K → K → Ordering) (test : K → Bool) (t : K × ℕ) (f : FormalSum K) (struck : Bool) → IsCanonical order (t ∷ f) → IsCanonical order (strike test f)
    → IsCanonical order (if struck then strike test f else (t ∷ strike test f))
canonical_step order test t f true h k = k
canonical_step order test t f false h k = (h.0, h.1, AllKeys-strike _ test f h.2, k)

pub IsCanonical-strike : {K : Type 0} (order : K → K → Ordering) (test : K → Bool) (f : FormalSum K) → IsCanonical order f → IsCanonical order (strike test f)
IsCanonical-strike order test [] h = tt
IsCanonical-strike order test (t ∷ f) h = canonical_step order test t f (test t.0) h (IsCanonical-strike order test f h.3)
