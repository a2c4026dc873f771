-- Combinations are linear, and the relation `IsEqualBelow` is an equivalence.
use Rattle.std.proofs.Common.{◌≡◌, ℕ, ◌+◌, ◌*◌, Bool, [], ◌∷◌, ◌++◌, sym, refl, ap, ◌∙◌, arith}
use Rattle.std.specs.declared.cmp.Ordering.{Ordering}
use Rattle.std.specs.declared.cmp.Ordering.TheVariants.{Greater}
use Rattle.std.specs.Bool.{Decides}
use Rattle.ibp_field.specs.Arithmetic.{IsCongruent}
use Rattle.ibp_algebra.specs.FormalSum.{FormalSum, weighted_sum, AllKeys, scale}
use Rattle.ibp_algebra.specs.Combination.{combination, IsEqualBelow}
use Rattle.ibp_field.proofs.Congruence.{IsCongruent-trans, IsCongruent-from_eq}
use Rattle.ibp_algebra.proofs.Weights.{weighted_sum-append, weighted_sum-scale, weighted_sum-SameCoefficients, SameCoefficients-from_weights}
use Rattle.ibp_algebra.proofs.ZeroDivisors.{AllKeys-scale}

pub AllKeys-weaker : {K : Type 0} (P Q : K → Type 0) → ((k : K) → P k → Q k) → (f : FormalSum K) → AllKeys P f → AllKeys Q f
AllKeys-weaker P Q weaker [] h = tt
AllKeys-weaker P Q weaker (t ∷ f) h = (weaker t.0 h.0, AllKeys-weaker P Q weaker f h.1)

pub AllKeys-both : {K : Type 0} (P Q : K → Type 0) (f : FormalSum K) → AllKeys P f → AllKeys Q f → AllKeys (λ k. P k × Q k) f
AllKeys-both P Q [] h k = tt
AllKeys-both P Q (t ∷ f) h k = ((h.0, k.0), AllKeys-both P Q f h.1 k.1)

module _ {I K : Type 0} (value : I → FormalSum K) where
  pub weighted_sum-combination : (w : K → ℕ) (f : FormalSum I) → weighted_sum w (combination value f) ≡ weighted_sum (λ i. weighted_sum w (value i)) f
  weighted_sum-combination w [] = refl
  weighted_sum-combination w (t ∷ f) =
      omega (arith, weighted_sum-append w (scale t.1 (value t.0)) (combination value f), weighted_sum-scale w t.1 (value t.0), weighted_sum-combination w f)

  pub combination-append : (f g : FormalSum I) (w : K → ℕ)
      → weighted_sum w (combination value (f ++ g)) ≡ weighted_sum w (combination value f) + weighted_sum w (combination value g)
  combination-append f g w =
      weighted_sum-combination w (f ++ g) ∙ weighted_sum-append (λ i. weighted_sum w (value i)) f g
      ∙ omega (arith, weighted_sum-combination w f, weighted_sum-combination w g)

  pub combination-scale : (c : ℕ) (f : FormalSum I) (w : K → ℕ) → weighted_sum w (combination value (scale c f)) ≡ c * weighted_sum w (combination value f)
  combination-scale c f w =
      weighted_sum-combination w (scale c f) ∙ weighted_sum-scale (λ i. weighted_sum w (value i)) c f ∙ ap (λ n. c * n) (sym (weighted_sum-combination w f))

module _ {I K : Type 0} (order : K → K → Ordering) (same : K → K → Bool) (decides : (a b : K) → Decides (same a b) (a ≡ b))
    (value : I → FormalSum K) (lead : I → K) (Allowed : I → Type 0) where
  -- what `IsEqualBelow` says of each weighted sum
  pub weighted_sum-IsEqualBelow : (top : K) (a b : I) (e : IsEqualBelow order same value lead Allowed top a b) (w : K → ℕ)
      → IsCongruent (weighted_sum w (value a)) (weighted_sum w (value b) + weighted_sum (λ i. weighted_sum w (value i)) e.summands)
  weighted_sum-IsEqualBelow top a b e w =
      IsCongruent-trans (weighted_sum-SameCoefficients same decides w _ _ e.difference)
      (IsCongruent-from_eq (weighted_sum-append w (value b) (combination value e.summands) ∙ ap (λ n. weighted_sum w (value b) + n) (weighted_sum-combination value w e.summands)))

  pub IsEqualBelow-from_weights : (top : K) (a b : I) (f : FormalSum I) → AllKeys Allowed f → AllKeys (λ i. order top (lead i) ≡ Greater) f
      → ((w : K → ℕ) → IsCongruent (weighted_sum w (value a)) (weighted_sum w (value b) + weighted_sum (λ i. weighted_sum w (value i)) f))
      → IsEqualBelow order same value lead Allowed top a b
  IsEqualBelow-from_weights top a b f allowed below h =
      record {
        summands = f;
        allowed = allowed;
        below = below;
        difference = SameCoefficients-from_weights same decides _ _ (λ w.
            IsCongruent-trans (h w)
            (IsCongruent-from_eq (sym (weighted_sum-append w (value b) (combination value f) ∙ ap (λ n. weighted_sum w (value b) + n) (weighted_sum-combination value w f)))));
      }

  pub IsEqualBelow-refl : (top : K) (a : I) → IsEqualBelow order same value lead Allowed top a a
  IsEqualBelow-refl top a = IsEqualBelow-from_weights top a a [] tt tt (λ w. IsCongruent-from_eq (omega arith))

  pub IsEqualBelow-sym : (top : K) (a b : I) → IsEqualBelow order same value lead Allowed top a b → IsEqualBelow order same value lead Allowed top b a
  IsEqualBelow-sym top a b e =
      IsEqualBelow-from_weights top b a (scale 2147483646 e.summands) (AllKeys-scale Allowed 2147483646 e.summands e.allowed)
      (AllKeys-scale (λ i. order top (lead i) ≡ Greater) 2147483646 e.summands e.below)
      (λ w.
      let h = (weighted_sum-IsEqualBelow top a b e w).same_residue in
      record { same_residue = omega (arith, h, weighted_sum-scale (λ i. weighted_sum w (value i)) 2147483646 e.summands) })
