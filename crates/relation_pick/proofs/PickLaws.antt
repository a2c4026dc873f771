-- The laws of the written candidates: they are independent, they reduce each target as all candidates do,
-- and none of them can be left out.
use Rattle.std.proofs.Common.{◌≡◌, ◌≢◌, ℕ, ◌<◌, Bool, List, length, refl, ◌∙◌}
use Rattle.std.specs.Prelude.{Any, Contains}
use Rattle.std.specs.Ordering.{eq_by_cmp, nat_cmp}
use Rattle.std.specs.declared.cmp.Ordering.{Ordering}
use Rattle.std.specs.Cmp.{IsTotalOrder, nat_cmp_total}
use Rattle.std.specs.FinMap.{IsAntisymmetric, nat_cmp-IsAntisymmetric}
use Rattle.std.specs.Bool.{Decides}
use Rattle.ibp_algebra.specs.FormalSum.{FormalSum, AllKeys, normal_form}
use Rattle.ibp_algebra.proofs.Numbers.{nat_decides}
use Rattle.ibp_algebra.proofs.SumLaws.{SameCoefficients-sym, SameCoefficients-trans}
use Rattle.ibp_algebra.proofs.Terms.{AllKeys-canonical}
use Rattle.ibp_algebra.proofs.NormalForm.{IsCanonical-normal_form, SameCoefficients-normal_form}
use Rattle.ibp_algebra.specs.Spans.{row_at, difference, SameSum, coefficient_by, IsIndependent, IsReducedForm}
use Rattle.ibp_algebra.specs.Combination.{combination}
use Rattle.ibp_algebra.proofs.CombinationLaws.{combination-weights}
use Rattle.ibp_algebra.proofs.Members.{order_decides, AllKeys-counting, InSpan-along}
use Rattle.ibp_algebra.proofs.Combinations.{AllKeys-weaker}
use Rattle.ibp_algebra.proofs.ReducedForms.{difference-from_sum, sum-from_difference}
use Rattle.ibp_algebra.proofs.Independence.{weights_unique, IsIndependent-along}
use Rattle.row_echelon.specs.RowSpans.{SpanOf, WholeSpan}
use Rattle.relation_pick.specs.Picking.{IsInBasis, IsExpression, IsNeededFor, IsWritten}
use Rattle.relation_pick.proofs.ByPlaces.{SpanBut, DependsOnPlace}
use Rattle.relation_pick.proofs.Basis.{IsIndependent-new}

-- a name with a weight that is not zero has what all names have
counting_name : (P : ℕ → Type 0) (c : FormalSum ℕ) → AllKeys P c → (k : ℕ) → coefficient_by nat_cmp c k ≢ 0 → P k
counting_name P c h k counts = AllKeys-counting nat_cmp nat_cmp_total nat_cmp-IsAntisymmetric P c h k counts

module _ {K : Type 0} (order : K → K → Ordering) (total : IsTotalOrder order) (unique : IsAntisymmetric order) (candidates : List (FormalSum K)) where
  abbrev same : K → K → Bool
  same = eq_by_cmp order

  decides : (a b : K) → Decides (same a b) (a ≡ b)
  decides = order_decides order total unique

  pub IsIndependent-basis : IsIndependent nat_cmp order (row_at candidates) (IsInBasis order candidates)
  IsIndependent-basis = IsIndependent-along order total unique nat_cmp (row_at candidates) _ _ (λ k h. h.new) (IsIndependent-new order total unique (row_at candidates))

  needed_in_basis : (target : FormalSum K) (k : ℕ) → IsNeededFor order candidates target k → IsInBasis order candidates k
  needed_in_basis target k h = counting_name (IsInBasis order candidates) h.weights h.expressed.basis k h.counts

  pub written_in_basis : (targets : List (FormalSum K)) (k : ℕ) → IsWritten order candidates targets k → IsInBasis order candidates k
  written_in_basis targets k h = needed_in_basis h.1 k h.4

  -- the written candidates are independent
  pub IsIndependent-written : (targets : List (FormalSum K)) → IsIndependent nat_cmp order (row_at candidates) (IsWritten order candidates targets)
  IsIndependent-written targets = IsIndependent-along order total unique nat_cmp (row_at candidates) _ _ (written_in_basis targets) IsIndependent-basis

  -- a reduced form by the whole span is one by a part of it, where the difference lies in that part
  reduced_by_part : (Places : ℕ → Type 0) → ((k : ℕ) → Places k → k < length candidates) → (target form : FormalSum K)
      → IsReducedForm order (WholeSpan order candidates) target form → SpanOf order candidates Places (difference target form)
      → IsReducedForm order (SpanOf order candidates Places) target form
  reduced_by_part Places listed target form h member =
      record {
        within = member;
        reduced = λ v key inside lead. h.reduced v key (InSpan-along order total unique (row_at candidates) Places (λ k. k < length candidates) listed inside) lead;
      }

  -- the written candidates reduce each target as all candidates do
  pub IsReducedForm-written : (targets : List (FormalSum K)) (target form : FormalSum K) (weights : FormalSum ℕ) → Contains targets target
      → IsReducedForm order (WholeSpan order candidates) target form → IsExpression order candidates target form weights
      → IsReducedForm order (SpanOf order candidates (IsWritten order candidates targets)) target form
  IsReducedForm-written targets target form weights listed h e =
      let c = normal_form nat_cmp weights in
      let c_is : SameSum nat_cmp c weights = SameCoefficients-normal_form nat_cmp nat_cmp_total nat_cmp-IsAntisymmetric (eq_by_cmp nat_cmp) nat_decides weights in
      let written : (k : ℕ) → coefficient_by nat_cmp c k ≢ 0 → IsWritten order candidates targets k =
      λ k counts. (
        listed.0,
        target,
        listed.1,
        listed.2,
        record { form = form; weights = weights; reduced = h; expressed = e; counts = λ none. counts (c_is.same_at k ∙ none) },
      )
      in
      let among : AllKeys (IsWritten order candidates targets) c =
      AllKeys-canonical (eq_by_cmp nat_cmp) nat_decides nat_cmp nat_cmp_total (IsWritten order candidates targets) c
      (IsCanonical-normal_form nat_cmp nat_cmp_total nat_cmp-IsAntisymmetric weights) written
      in
      let member : SpanOf order candidates (IsWritten order candidates targets) (difference target form) =
      record {
        weights = c;
        among = among;
        equal = SameCoefficients-trans (difference-from_sum order target form (combination (row_at candidates) weights) e.equal)
            (combination-weights same decides (eq_by_cmp nat_cmp) nat_decides (row_at candidates) weights c (SameCoefficients-sym c_is));
      }
      in
      reduced_by_part (IsWritten order candidates targets) (λ k w. (written_in_basis targets k w).listed) target form h member

  -- without a candidate that counts in its expression a target loses its reduced form
  form_lost : (targets : List (FormalSum K)) (target : FormalSum K) (j : ℕ) (needed : IsNeededFor order candidates target j)
      → ¬ (IsReducedForm order (SpanBut order candidates (IsWritten order candidates targets) j) target needed.form)
  form_lost targets target j needed h =
      let others = h.within.weights in
      let in_basis : AllKeys (IsInBasis order candidates) others =
      AllKeys-weaker _ (IsInBasis order candidates) (λ k w. written_in_basis targets k w.0) others h.within.among
      in
      let apart : AllKeys (λ k. k ≢ j) others = AllKeys-weaker _ (λ k. k ≢ j) (λ k w. w.1) others h.within.among in
      let alike : SameSum nat_cmp needed.weights others =
      weights_unique order total unique nat_cmp (row_at candidates) (IsInBasis order candidates) IsIndependent-basis target needed.form
      needed.weights others needed.expressed.basis in_basis needed.expressed.equal
      (sum-from_difference order target needed.form (combination (row_at candidates) others) h.within.equal)
      in
      counting_name (λ k. k ≢ j) others apart j (λ none. needed.counts (alike.same_at j ∙ none)) refl

  -- none of the written candidates can be left out
  pub DependsOn-written : (targets : List (FormalSum K)) (j : ℕ) → IsWritten order candidates targets j
      → Any (λ target. DependsOnPlace order candidates (IsWritten order candidates targets) target j) targets
  DependsOn-written targets j w =
      let needed = w.4 in (
        w.0,
        w.1,
        w.2,
        w.3,
        record {
          form = needed.form;
          before = IsReducedForm-written targets w.1 needed.form needed.weights (w.0, w.2, w.3) needed.reduced needed.expressed;
          after = form_lost targets w.1 j needed;
        },
      )
