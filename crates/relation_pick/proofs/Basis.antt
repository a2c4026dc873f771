-- The basis of first independent rows: it is independent, and it spans what all rows span.
use Rattle.std.proofs.Common.{◌≡◌, ◌⊎◌, ℕ, zero, suc, ◌*◌, ◌<◌, ◌≤◌, Bool, [], ◌∷◌, refl, subst, ⊎_elim, arith}
use Rattle.std.specs.Ordering.{eq_by_cmp, nat_cmp}
use Rattle.std.specs.declared.cmp.Ordering.{Ordering}
use Rattle.std.specs.Cmp.{IsTotalOrder, nat_cmp_total}
use Rattle.std.specs.FinMap.{IsAntisymmetric, nat_cmp-IsAntisymmetric}
use Rattle.std.specs.Bool.{Decides}
use Rattle.std.proofs.lemmas.Bool.{cases_lt}
use Rattle.ibp_algebra.specs.FormalSum.{FormalSum, AllKeys, IsCanonical, normal_form}
use Rattle.ibp_field.proofs.Inverse.{inverse_exists}
use Rattle.ibp_algebra.proofs.Numbers.{greater_is, nat_decides}
use Rattle.ibp_algebra.proofs.SumLaws.{SameCoefficients-sym, SameCoefficients-trans}
use Rattle.ibp_algebra.proofs.NormalForm.{IsCanonical-normal_form, AllKeys-normal_form, SameCoefficients-normal_form}
use Rattle.ibp_algebra.specs.Combination.{combination}
use Rattle.ibp_algebra.specs.Spans.{SameSum, InSpan, IsIndependent}
use Rattle.ibp_algebra.proofs.CombinationLaws.{combination-weights}
use Rattle.ibp_algebra.proofs.Members.{order_decides, InSpan-row, InSpan-scale, InSpan-same, InSpan-trans}
use Rattle.ibp_algebra.proofs.Combinations.{AllKeys-weaker}
use Rattle.ibp_algebra.proofs.Independence.{solved_row}

module _ {K : Type 0} (order : K → K → Ordering) (total : IsTotalOrder order) (unique : IsAntisymmetric order) (row : ℕ → FormalSum K) where
  abbrev same : K → K → Bool
  same = eq_by_cmp order

  decides : (a b : K) → Decides (same a b) (a ≡ b)
  decides = order_decides order total unique

  -- the row is not in the span of the earlier ones
  abbrev IsNew : ℕ → Type 0
  IsNew k = ¬ (InSpan order row (λ j. j < k) (row k))

  first_not_new : (t : ℕ × ℕ) (c : FormalSum ℕ) → IsCanonical nat_cmp (t ∷ c) → SameSum order (combination row (t ∷ c)) [] → InSpan order row (λ j. j < t.0) (row t.0)
  first_not_new t c h none =
      let inverse = inverse_exists t.1 h.0 h.1 in
      InSpan-same order total unique row (λ j. j < t.0) (SameCoefficients-sym (solved_row order total unique t.1 inverse.0 (row t.0) (combination row c) inverse.1 none))
      (InSpan-scale order total unique row (λ j. j < t.0) (inverse.0 * 2147483646)
      (record { weights = c; among = AllKeys-weaker _ _ (λ k below. greater_is t.0 k below) c h.2; equal = record { same_at = λ key. refl } }))

  no_first : (c : FormalSum ℕ) → IsCanonical nat_cmp c → AllKeys IsNew c → SameSum order (combination row c) [] → c ≡ []
  no_first [] h p none = refl
  no_first (t ∷ c) h p none = absurd (p.0 (first_not_new t c h none))

  -- rows that are not in the span of earlier ones are independent
  pub IsIndependent-new : IsIndependent nat_cmp order row IsNew
  IsIndependent-new = record {
    only_zero = λ weights among gives_zero.
        let c = normal_form nat_cmp weights in
        let c_is : SameSum nat_cmp c weights = SameCoefficients-normal_form nat_cmp nat_cmp_total nat_cmp-IsAntisymmetric (eq_by_cmp nat_cmp) nat_decides weights in
        let none : c ≡ [] =
        no_first c (IsCanonical-normal_form nat_cmp nat_cmp_total nat_cmp-IsAntisymmetric weights)
        (AllKeys-normal_form nat_cmp nat_cmp_total nat_cmp-IsAntisymmetric IsNew weights among)
        (SameCoefficients-trans (combination-weights same decides (eq_by_cmp nat_cmp) nat_decides row c weights c_is) gives_zero)
        in
        subst (λ d. SameSum nat_cmp weights d) none (SameCoefficients-sym c_is);
  }

  module _ (count : ℕ) (decided : (k : ℕ) → k < count → (¬ (InSpan order row (λ j. j < k) (row k))) ⊎ (InSpan order row (λ j. j < k) (row k))) where
    abbrev InBasis : ℕ → Type 0
    InBasis k = (k < count) × IsNew k

    rows_below : (m : ℕ) → m ≤ count → (k : ℕ) → k < m → InSpan order row InBasis (row k)
    rows_below zero le k below = absurd (omega arith)
    rows_below (suc m) le k below =
        ⊎_elim
        (λ (earlier : k < m). rows_below m (omega arith) k earlier)
        (λ (late : m ≤ k).
        let here : m ≡ k = omega arith in
        subst (λ n. InSpan order row InBasis (row n)) here
        (⊎_elim
        (λ (new : IsNew m). InSpan-row order total unique row InBasis m (omega arith, new))
        (λ (old : InSpan order row (λ j. j < m) (row m)).
        InSpan-trans order total unique row InBasis row (λ j. j < m) (λ j earlier. rows_below m (omega arith) j earlier) old)
        (decided m (omega arith))))
        (cases_lt k m)

    -- where it is decided which rows are new, the new ones span the others
    pub basis_spans : (f : FormalSum K) → InSpan order row (λ k. k < count) f → InSpan order row (λ k. (k < count) × (¬ (InSpan order row (λ j. j < k) (row k)))) f
    basis_spans f member = InSpan-trans order total unique row InBasis row (λ k. k < count) (rows_below count (omega arith)) member
