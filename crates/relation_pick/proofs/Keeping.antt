-- The candidates that an echelon keeps are the basis, and they span what all candidates span.
use Rattle.std.proofs.Common.{◌≡◌, ℕ, ◌+◌, ◌<◌, ◌≤◌, List, [], ◌∷◌, ◌++◌, length, sym, ap, subst, ◌∙◌, ⊎_elim, arith}
use Rattle.std.specs.Ordering.{eq_by_cmp}
use Rattle.std.proofs.lemmas.Bool.{cases_lt}
use Rattle.std.proofs.lemmas.List.Elements.{All-push}
use Rattle.sector_lattice.specs.Sectors.{integral_cmp}
use Rattle.sector_lattice.specs.Orders.{integral_cmp_total, same_integrals, integrals_decide}
use Rattle.ibp_algebra.specs.FormalSum.{FormalSum, AllKeys, IsCanonical}
use Rattle.ibp_algebra.proofs.SumLaws.{SameCoefficients-refl, SameCoefficients-trans, SameCoefficients-append}
use Rattle.ibp_algebra.specs.Combination.{combination}
use Rattle.ibp_algebra.specs.Spans.{row_at, coefficient_by, IsReducedForm}
use Rattle.sparse_rows.specs.Rows.{IntegralSum, SameRow}
use Rattle.ibp_algebra.proofs.CombinationLaws.{combination-rows}
use Rattle.ibp_algebra.proofs.Combinations.{AllKeys-weaker}
use Rattle.ibp_algebra.proofs.Members.{InSpan-row, InSpan-trans}
use Rattle.ibp_algebra.proofs.ReducedForms.{IsReducedForm-along}
use Rattle.row_echelon.specs.declared.inserted.Inserted.{Inserted}
use Rattle.row_echelon.specs.declared.inserted.Inserted.TheVariants.{Kept, Dependent}
use Rattle.row_echelon.specs.Echelons.{KeptRows, row_numbered, IsNumber, InKeptSpan, IsBelow, Inserts, number_cmp}
use Rattle.row_echelon.proofs.Keeping.{number_cases, new_number, row_numbered-push_new, row_numbered-push_old, InKeptSpan-push}
use Rattle.row_echelon.specs.RowSpans.{WholeSpan}
use Rattle.relation_pick.specs.Picking.{IsInBasis, IsAnswer, IsForm}
use Rattle.relation_pick.specs.Kept.{KeepsBasis}

pub KeepsBasis-start : (candidates : List IntegralSum) → KeepsBasis candidates 0 []
KeepsBasis-start candidates = record {
  below = λ i d within. absurd (omega arith);
  numbered = λ k is. absurd (omega (arith, is.1));
  basis = λ k is. absurd (omega (arith, is.1));
  spans = λ k early. absurd (omega arith);
}

below_more : (kept : KeptRows) (n : ℕ) → IsBelow kept n → IsBelow kept (n + 1)
below_more kept n h = λ i d within. (let below = h i d within in omega arith)

-- a row that is in the span changes nothing
dependent_step : (candidates : List IntegralSum) (n : ℕ) (kept : KeptRows) → KeepsBasis candidates n kept → InKeptSpan kept (row_at candidates n) → KeepsBasis candidates (n + 1) kept
dependent_step candidates n kept h member = record {
  below = below_more kept n h.below;
  numbered = h.numbered;
  basis = h.basis;
  spans = λ k early.
      ⊎_elim
      (λ (before : k < n). h.spans k before)
      (λ (late : n ≤ k). let here : n ≡ k = omega arith in subst (λ m. InKeptSpan kept (row_at candidates m)) here member)
      (cases_lt k n);
}

-- and another one joins the basis
kept_step : (candidates : List IntegralSum) (n : ℕ) (kept : KeptRows) → n < length candidates → KeepsBasis candidates n kept → ¬ (InKeptSpan kept (row_at candidates n))
    → KeepsBasis candidates (n + 1) (kept ++ (n, row_at candidates n) ∷ [])
kept_step candidates n kept within h new =
    let added : ℕ × IntegralSum = (n, row_at candidates n) in
    let here_basis : IsInBasis integral_cmp candidates n = record {
      listed = within;
      new = λ earlier. new (InSpan-trans integral_cmp integral_cmp_total same_integrals (row_numbered kept) (IsNumber kept) (row_at candidates) (λ j. j < n) h.spans earlier);
    }
    in
    record {
      below = All-push (λ row. row.0 < n + 1) kept added (below_more kept n h.below) (omega arith);
      numbered = λ k is.
          ⊎_elim
          (λ (old : IsNumber kept k). row_numbered-push_old kept added k old ∙ h.numbered k old)
          (λ (here : n ≡ k). subst (λ m. row_numbered (kept ++ added ∷ []) m ≡ row_at candidates m) here (row_numbered-push_new kept n (row_at candidates n) h.below))
          (number_cases kept added k is);
      basis = λ k is.
          ⊎_elim (λ (old : IsNumber kept k). h.basis k old) (λ (here : n ≡ k). subst (IsInBasis integral_cmp candidates) here here_basis) (number_cases kept added k is);
      spans = λ k early.
          ⊎_elim
          (λ (before : k < n). InKeptSpan-push kept added (row_at candidates k) (h.spans k before))
          (λ (late : n ≤ k).
          let here : n ≡ k = omega arith in
          let own : InKeptSpan (kept ++ added ∷ []) (row_numbered (kept ++ added ∷ []) n) =
          InSpan-row integral_cmp integral_cmp_total same_integrals (row_numbered (kept ++ added ∷ [])) (IsNumber (kept ++ added ∷ [])) n (new_number kept added)
          in
          subst (λ m. InKeptSpan (kept ++ added ∷ []) (row_at candidates m)) here
          (subst (InKeptSpan (kept ++ added ∷ [])) (row_numbered-push_new kept n (row_at candidates n) h.below) own))
          (cases_lt k n);
    }

pub KeepsBasis-step : (candidates : List IntegralSum) (n : ℕ) (old new : KeptRows) (row : IntegralSum) (inserted : Inserted) → Inserts old new row n inserted
    → row ≡ row_at candidates n → n < length candidates → KeepsBasis candidates n old → KeepsBasis candidates (n + 1) new
KeepsBasis-step candidates n old new row Kept i row_is within h =
    subst (KeepsBasis candidates (n + 1)) (sym (i.1 ∙ ap (λ (f : IntegralSum). old ++ (n, f) ∷ []) row_is))
    (kept_step candidates n old within h (subst (λ f. ¬ (InKeptSpan old f)) row_is i.0))
KeepsBasis-step candidates n old new row Dependent i row_is within h =
    subst (KeepsBasis candidates (n + 1)) (sym i.1) (dependent_step candidates n old h (subst (InKeptSpan old) row_is i.0))

-- ---- all candidates

module _ (candidates : List IntegralSum) (kept : KeptRows) (h : KeepsBasis candidates (length candidates) kept) where
  whole_from_kept : (f : IntegralSum) → InKeptSpan kept f → WholeSpan integral_cmp candidates f
  whole_from_kept f member =
      InSpan-trans integral_cmp integral_cmp_total same_integrals (row_at candidates) (λ k. k < length candidates) (row_numbered kept) (IsNumber kept)
      (λ k is. subst (WholeSpan integral_cmp candidates) (sym (h.numbered k is))
      (InSpan-row integral_cmp integral_cmp_total same_integrals (row_at candidates) (λ j. j < length candidates) k (h.basis k is).listed))
      member

  kept_from_whole : (f : IntegralSum) → WholeSpan integral_cmp candidates f → InKeptSpan kept f
  kept_from_whole f member =
      InSpan-trans integral_cmp integral_cmp_total same_integrals (row_numbered kept) (IsNumber kept) (row_at candidates) (λ k. k < length candidates) h.spans member

  pub IsForm-from_reduce : (target form : IntegralSum) → IsReducedForm integral_cmp (InKeptSpan kept) target form → IsCanonical integral_cmp form → IsForm integral_cmp candidates target form
  IsForm-from_reduce target form reduced canonical = record {
    reduced = IsReducedForm-along integral_cmp (InKeptSpan kept) (WholeSpan integral_cmp candidates) whole_from_kept kept_from_whole target form reduced;
    canonical = canonical;
  }

  -- what the echelon answers is the answer for the target
  pub IsAnswer-from_reduce : (target form : IntegralSum) (weights : FormalSum ℕ) → IsReducedForm integral_cmp (InKeptSpan kept) target form → IsCanonical integral_cmp form
      → SameRow target (form ++ combination (row_numbered kept) weights) → AllKeys (IsNumber kept) weights → IsCanonical number_cmp weights
      → IsAnswer integral_cmp candidates target form weights
  IsAnswer-from_reduce target form weights reduced canonical sum numbers ascending = record {
    reduced = IsReducedForm-along integral_cmp (InKeptSpan kept) (WholeSpan integral_cmp candidates) whole_from_kept kept_from_whole target form reduced;
    canonical = canonical;
    expressed = record {
      basis = AllKeys-weaker (IsNumber kept) (IsInBasis integral_cmp candidates) h.basis weights numbers;
      equal = SameCoefficients-trans sum
          (SameCoefficients-append (eq_by_cmp integral_cmp) integrals_decide (SameCoefficients-refl (eq_by_cmp integral_cmp) form)
          (combination-rows (eq_by_cmp integral_cmp) integrals_decide (IsNumber kept) (row_numbered kept) (row_at candidates)
          (λ k is. record { same_at = λ key. ap (λ f. coefficient_by integral_cmp f key) (h.numbered k is) }) weights numbers));
    };
    ascending = ascending;
  }
