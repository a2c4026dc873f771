-- Over independent rows the weights of a combination are unique. A row with a weight that is not zero in a
-- combination that gives zero is a combination of the others.
use Rattle.std.proofs.Common.{◌≡◌, ℕ, ◌+◌, ◌*◌, Bool, [], ◌++◌, ap, ◌∙◌, arith}
use Rattle.std.specs.Ordering.{eq_by_cmp}
use Rattle.std.specs.declared.cmp.Ordering.{Ordering}
use Rattle.std.specs.Cmp.{IsTotalOrder}
use Rattle.std.specs.FinMap.{IsAntisymmetric}
use Rattle.std.specs.Bool.{Decides}
use Rattle.ibp_field.specs.Arithmetic.{IsCongruent}
use Rattle.ibp_algebra.specs.FormalSum.{FormalSum, weighted_sum, AllKeys, scale}
use Rattle.ibp_field.proofs.Congruence.{IsCongruent-refl, IsCongruent-mul}
use Rattle.ibp_algebra.proofs.Weights.{weighted_sum-append, weighted_sum-scale, weighted_sum-SameCoefficients, SameCoefficients-from_weights}
use Rattle.ibp_algebra.proofs.ZeroDivisors.{AllKeys-append, AllKeys-scale}
use Rattle.ibp_algebra.proofs.SumLaws.{SameCoefficients-refl, SameCoefficients-trans, SameCoefficients-append}
use Rattle.ibp_algebra.specs.Combination.{combination}
use Rattle.ibp_algebra.specs.Spans.{difference, SameSum, IsIndependent}
use Rattle.ibp_algebra.proofs.CombinationLaws.{combination-append, combination-scale}
use Rattle.ibp_algebra.proofs.Members.{order_decides}
use Rattle.ibp_algebra.proofs.Combinations.{AllKeys-weaker}
use Rattle.ibp_algebra.proofs.ReducedForms.{difference_zero}

module _ {K : Type 0} (order : K → K → Ordering) (total : IsTotalOrder order) (unique : IsAntisymmetric order) where
  abbrev same : K → K → Bool
  same = eq_by_cmp order

  decides : (a b : K) → Decides (same a b) (a ≡ b)
  decides = order_decides order total unique

  -- where a times r plus the rest is zero, r is a multiple of the rest
  pub solved_row : (a b : ℕ) (r rest : FormalSum K) → IsCongruent (b * a) 1 → SameSum order (scale a r ++ rest) [] → SameSum order r (scale (b * 2147483646) rest)
  solved_row a b r rest one zero =
      SameCoefficients-from_weights same decides _ _ (λ w.
      let none = weighted_sum-SameCoefficients same decides w (scale a r ++ rest) [] zero in
      let times : IsCongruent (b * weighted_sum w (scale a r ++ rest)) (b * 0) = IsCongruent-mul (IsCongruent-refl b) none in
      let first : IsCongruent (b * a * weighted_sum w r) (1 * weighted_sum w r) = IsCongruent-mul one (IsCongruent-refl (weighted_sum w r)) in
      let parts : b * weighted_sum w (scale a r ++ rest) ≡ b * a * weighted_sum w r + b * weighted_sum w rest =
      ap (λ n. b * n) (weighted_sum-append w (scale a r) rest ∙ ap (λ n. n + weighted_sum w rest) (weighted_sum-scale w a r)) ∙ omega arith
      in
      record { same_residue = omega (arith, times.same_residue, first.same_residue, parts, weighted_sum-scale w (b * 2147483646) rest) })

  sums_apart : (f v c d : FormalSum K) → SameSum order f (v ++ c) → SameSum order f (v ++ d) → SameSum order (difference c d) []
  sums_apart f v c d p q =
      SameCoefficients-from_weights same decides _ _ (λ w.
      let first = weighted_sum-SameCoefficients same decides w f (v ++ c) p in
      let second = weighted_sum-SameCoefficients same decides w f (v ++ d) q in
      record {
        same_residue = omega (
          arith,
          first.same_residue,
          second.same_residue,
          weighted_sum-append w v c,
          weighted_sum-append w v d,
          weighted_sum-append w c (scale 2147483646 d),
          weighted_sum-scale w 2147483646 d,
        );
      })

  -- a formal sum is in at most one way a given one plus a combination of independent rows
  pub weights_unique : {I : Type 0} (names : I → I → Ordering) (row : I → FormalSum K) (Among : I → Type 0) → IsIndependent names order row Among
      → (f v : FormalSum K) (c d : FormalSum I) → AllKeys Among c → AllKeys Among d
      → SameSum order f (v ++ combination row c) → SameSum order f (v ++ combination row d) → SameSum names c d
  weights_unique names row Among independent f v c d among among' p q =
      let zero : SameSum order (combination row (difference c d)) [] =
      SameCoefficients-trans (combination-append same decides row c (scale 2147483646 d))
      (SameCoefficients-trans (SameCoefficients-append same decides (SameCoefficients-refl same (combination row c)) (combination-scale same decides row 2147483646 d))
      (sums_apart f v (combination row c) (combination row d) p q))
      in
      difference_zero names c d (independent.only_zero (difference c d) (AllKeys-append Among c (scale 2147483646 d) among (AllKeys-scale Among 2147483646 d among')) zero)

  -- fewer rows are independent too
  pub IsIndependent-along : {I : Type 0} (names : I → I → Ordering) (row : I → FormalSum K) (P Q : I → Type 0) → ((i : I) → Q i → P i)
      → IsIndependent names order row P → IsIndependent names order row Q
  IsIndependent-along names row P Q h independent = record { only_zero = λ weights among. independent.only_zero weights (AllKeys-weaker Q P h weights among) }
