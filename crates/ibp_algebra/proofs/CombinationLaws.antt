-- Combinations are linear in the weights and in the rows.
use Rattle.std.proofs.Common.{◌≡◌, ℕ, ◌*◌, Bool, [], ◌∷◌, ◌++◌, sym, ap, ◌∙◌, arith}
use Rattle.std.specs.Bool.{Decides}
use Rattle.ibp_field.specs.Arithmetic.{IsCongruent}
use Rattle.ibp_algebra.specs.FormalSum.{FormalSum, weighted_sum, SameCoefficients, AllKeys, scale}
use Rattle.ibp_field.proofs.Congruence.{IsCongruent-refl, IsCongruent-mul, IsCongruent-add}
use Rattle.ibp_algebra.proofs.Weights.{weighted_sum-append, weighted_sum-scale, weighted_sum-SameCoefficients, SameCoefficients-from_weights}
use Rattle.ibp_algebra.proofs.SumLaws.{SameCoefficients-from_sums}
use Rattle.ibp_algebra.specs.Combination.{combination}
use Rattle.ibp_algebra.proofs.Combinations.{weighted_sum-combination}

module _ {K : Type 0} (same : K → K → Bool) (decides : (a b : K) → Decides (same a b) (a ≡ b)) where
  pub combination-append : {I : Type 0} (row : I → FormalSum K) (c d : FormalSum I)
      → SameCoefficients same (combination row (c ++ d)) (combination row c ++ combination row d)
  combination-append row c d =
      SameCoefficients-from_sums same decides _ _ (λ w.
      weighted_sum-combination row w (c ++ d) ∙ weighted_sum-append (λ i. weighted_sum w (row i)) c d
      ∙ omega (arith, weighted_sum-combination row w c, weighted_sum-combination row w d, weighted_sum-append w (combination row c) (combination row d)))

  pub combination-scale : {I : Type 0} (row : I → FormalSum K) (a : ℕ) (c : FormalSum I)
      → SameCoefficients same (combination row (scale a c)) (scale a (combination row c))
  combination-scale row a c =
      SameCoefficients-from_sums same decides _ _ (λ w.
      weighted_sum-combination row w (scale a c) ∙ weighted_sum-scale (λ i. weighted_sum w (row i)) a c
      ∙ sym (weighted_sum-scale w a (combination row c) ∙ ap (λ n. a * n) (weighted_sum-combination row w c)))

  -- weights with the same coefficients
  pub combination-weights : {I : Type 0} (named : I → I → Bool) (names : (a b : I) → Decides (named a b) (a ≡ b)) (row : I → FormalSum K) (c d : FormalSum I)
      → SameCoefficients named c d → SameCoefficients same (combination row c) (combination row d)
  combination-weights named names row c d h =
      SameCoefficients-from_weights same decides _ _ (λ w.
      rw (weighted_sum-combination row w c, weighted_sum-combination row w d)
      (weighted_sum-SameCoefficients named names (λ i. weighted_sum w (row i)) c d h))

  rows_along : {I : Type 0} (P : I → Type 0) (row other : I → FormalSum K) → ((i : I) → P i → SameCoefficients same (row i) (other i))
      → (w : K → ℕ) (c : FormalSum I) → AllKeys P c → IsCongruent (weighted_sum w (combination row c)) (weighted_sum w (combination other c))
  rows_along P row other h w [] p = IsCongruent-refl 0
  rows_along P row other h w (t ∷ c) p =
      rw (weighted_sum-combination row w (t ∷ c), weighted_sum-combination other w (t ∷ c))
      (IsCongruent-add (IsCongruent-mul (IsCongruent-refl t.1) (weighted_sum-SameCoefficients same decides w (row t.0) (other t.0) (h t.0 p.0)))
      (rw (← weighted_sum-combination row w c, ← weighted_sum-combination other w c) (rows_along P row other h w c p.1)))

  -- rows with the same coefficients
  pub combination-rows : {I : Type 0} (P : I → Type 0) (row other : I → FormalSum K) → ((i : I) → P i → SameCoefficients same (row i) (other i))
      → (c : FormalSum I) → AllKeys P c → SameCoefficients same (combination row c) (combination other c)
  combination-rows P row other h c p = SameCoefficients-from_weights same decides _ _ (λ w. rows_along P row other h w c p)

  -- the combination of the one row
  pub combination-one : {I : Type 0} (row : I → FormalSum K) (i : I) → SameCoefficients same (row i) (combination row ((i, 1) ∷ []))
  combination-one row i =
      SameCoefficients-from_sums same decides _ _ (λ w. omega (arith, weighted_sum-combination row w ((i, 1) ∷ [])))
