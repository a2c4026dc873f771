-- Over ordered keys, a product of formal sums is zero only where a factor is: the product of the leads
-- stands alone at its key. So a factor that is not zero may be cancelled.
use Rattle.std.proofs.Common.{◌≡◌, ℕ, ◌*◌, Bool, [], ◌∷◌, ◌++◌, arith}
use Rattle.std.specs.declared.cmp.Ordering.{Ordering}
use Rattle.std.specs.declared.cmp.Ordering.TheVariants.{Greater}
use Rattle.std.specs.Cmp.{IsTotalOrder}
use Rattle.std.specs.FinMap.{IsAntisymmetric}
use Rattle.std.specs.Bool.{Decides}
use Rattle.ibp_field.specs.Arithmetic.{IsCongruent}
use Rattle.ibp_algebra.specs.FormalSum.{FormalSum, SameCoefficients, AllBelow, AllKeys, IsCanonical, scale, times_term, product, normal_form}
use Rattle.ibp_field.proofs.Inverse.{factor_is_zero}
use Rattle.ibp_algebra.proofs.Weights.{unit_weight, weighted_sum-append, weighted_sum-scale}
use Rattle.ibp_algebra.proofs.SumLaws.{SameCoefficients-refl, SameCoefficients-sym, SameCoefficients-trans, SameCoefficients-append, SameCoefficients-scale, SameCoefficients-product, product-append_left, product-scale_left}
use Rattle.ibp_algebra.proofs.Canonical.{AllBelow-trans, coefficient-lead}
use Rattle.ibp_algebra.proofs.NormalForm.{IsCanonical-normal_form, AllKeys-normal_form, SameCoefficients-normal_form}

AllBelow-append : {K : Type 0} (order : K → K → Ordering) (key : K) (f g : FormalSum K) → AllBelow order key f → AllBelow order key g → AllBelow order key (f ++ g)
AllBelow-append order key [] g h k = k
AllBelow-append order key (t ∷ f) g h k = (h.0, AllBelow-append order key f g h.1 k)

pub AllKeys-append : {K : Type 0} (P : K → Type 0) (f g : FormalSum K) → AllKeys P f → AllKeys P g → AllKeys P (f ++ g)
AllKeys-append P [] g h k = k
AllKeys-append P (t ∷ f) g h k = (h.0, AllKeys-append P f g h.1 k)

pub AllKeys-scale : {K : Type 0} (P : K → Type 0) (c : ℕ) (f : FormalSum K) → AllKeys P f → AllKeys P (scale c f)
AllKeys-scale P c [] h = tt
AllKeys-scale P c (t ∷ f) h = (h.0, AllKeys-scale P c f h.1)

module _ {K : Type 0} (order : K → K → Ordering) (total : IsTotalOrder order) (unique : IsAntisymmetric order)
    (same : K → K → Bool) (decides : (a b : K) → Decides (same a b) (a ≡ b))
    (times : K → K → K) (Valid : K → Type 0)
    (left : (a b c : K) → Valid a → Valid b → Valid c → order a b ≡ Greater → order (times a c) (times b c) ≡ Greater)
    (right : (a b c : K) → Valid a → Valid b → Valid c → order b c ≡ Greater → order (times a b) (times a c) ≡ Greater) where
  below_term : (t : K × ℕ) (key : K) (g : FormalSum K) → Valid t.0 → Valid key → AllKeys Valid g → AllBelow order key g
      → AllBelow order (times t.0 key) (times_term times t g)
  below_term t key [] p q v h = tt
  below_term t key (u ∷ g) p q v h = (right t.0 key u.0 p q v.0 h.0, below_term t key g p q v.1 h.1)

  below_product : (key : K) (f : FormalSum K) (u : K × ℕ) (g : FormalSum K) → Valid key → AllKeys Valid f → AllKeys Valid (u ∷ g)
      → AllBelow order key f → AllBelow order u.0 g → AllBelow order (times key u.0) (product times f (u ∷ g))
  below_product key [] u g p v w h k = tt
  below_product key (t ∷ f) u g p v w h k =
      let first : order (times key u.0) (times t.0 u.0) ≡ Greater = left key t.0 u.0 p v.0 w.0 h.0 in
      AllBelow-append order (times key u.0) (times_term times t (u ∷ g)) (product times f (u ∷ g))
      (first, AllBelow-trans order total (times key u.0) (times t.0 u.0) (times_term times t g) first (below_term t u.0 g v.0 w.0 w.1 k))
      (below_product key f u g p v.1 w h.1 k)

  canonical_factors : (f g : FormalSum K) → IsCanonical order f → IsCanonical order g → AllKeys Valid f → AllKeys Valid g
      → SameCoefficients same (product times f g) [] → ¬ (SameCoefficients same g []) → SameCoefficients same f []
  canonical_factors [] g p q v w zero not_zero = SameCoefficients-refl same []
  canonical_factors (t ∷ f) [] p q v w zero not_zero = absurd (not_zero (SameCoefficients-refl same []))
  canonical_factors (t ∷ f) (u ∷ g) p q v w zero not_zero =
      let key = times t.0 u.0 in
      let others = times_term times t g ++ product times f (u ∷ g) in
      let below : AllBelow order key others =
      AllBelow-append order key (times_term times t g) (product times f (u ∷ g)) (below_term t u.0 g v.0 w.0 w.1 q.2) (below_product t.0 f u g v.0 v.1 w p.2 q.2)
      in
      let lead = coefficient-lead order total same decides (key, t.1 * u.1) others below in
      let product_zero : IsCongruent (t.1 * u.1) 0 = record { same_residue = omega (arith, lead, zero.same_at key) } in
      let first_not_zero : ¬ (IsCongruent t.1 0) = λ e. omega (arith, e.same_residue, p.0, p.1) in
      let second_zero = factor_is_zero t.1 u.1 first_not_zero product_zero in
      absurd (omega (arith, second_zero.same_residue, q.0, q.1))

  -- a product is zero only where a factor is
  pub no_zero_divisors : (f g : FormalSum K) → AllKeys Valid f → AllKeys Valid g
      → SameCoefficients same (product times f g) [] → ¬ (SameCoefficients same g []) → SameCoefficients same f []
  no_zero_divisors f g v w zero not_zero =
      let f_is = SameCoefficients-normal_form order total unique same decides f in
      let g_is = SameCoefficients-normal_form order total unique same decides g in
      SameCoefficients-trans (SameCoefficients-sym f_is)
      (canonical_factors (normal_form order f) (normal_form order g)
      (IsCanonical-normal_form order total unique f) (IsCanonical-normal_form order total unique g)
      (AllKeys-normal_form order total unique Valid f v) (AllKeys-normal_form order total unique Valid g w)
      (SameCoefficients-trans (SameCoefficients-product same decides times f_is g_is) zero)
      (λ e. not_zero (SameCoefficients-trans (SameCoefficients-sym g_is) e)))

  difference_zero : (f g : FormalSum K) → SameCoefficients same (f ++ scale 2147483646 g) [] → SameCoefficients same f g
  difference_zero f g h =
      record { same_at = λ key. omega (arith, h.same_at key, weighted_sum-append (unit_weight same key) f (scale 2147483646 g), weighted_sum-scale (unit_weight same key) 2147483646 g) }

  own_difference : (f : FormalSum K) → SameCoefficients same (f ++ scale 2147483646 f) []
  own_difference f =
      record { same_at = λ key. omega (arith, weighted_sum-append (unit_weight same key) f (scale 2147483646 f), weighted_sum-scale (unit_weight same key) 2147483646 f) }

  -- a factor that is not zero may be cancelled
  pub product_cancel : (f g h : FormalSum K) → AllKeys Valid f → AllKeys Valid g → AllKeys Valid h
      → ¬ (SameCoefficients same h []) → SameCoefficients same (product times f h) (product times g h) → SameCoefficients same f g
  product_cancel f g h u v w not_zero e =
      let minus = scale 2147483646 g in
      let scaled : SameCoefficients same (product times minus h) (scale 2147483646 (product times f h)) =
      SameCoefficients-trans (product-scale_left same decides times 2147483646 g h)
      (SameCoefficients-scale same decides 2147483646 (SameCoefficients-sym e))
      in
      let zero : SameCoefficients same (product times (f ++ minus) h) [] =
      SameCoefficients-trans (product-append_left same decides times f minus h)
      (SameCoefficients-trans (SameCoefficients-append same decides (SameCoefficients-refl same (product times f h)) scaled)
      (own_difference (product times f h)))
      in
      difference_zero f g
      (no_zero_divisors (f ++ minus) h (AllKeys-append Valid f minus u (AllKeys-scale Valid 2147483646 g v)) w zero not_zero)
