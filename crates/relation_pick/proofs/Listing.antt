-- The places of the basis, listed as the candidates are inserted one after another.
use Rattle.std.proofs.Common.{◌≡◌, ◌⊎◌, inl, inr, ⊎_elim, ℕ, ◌+◌, ◌<◌, ◌≤◌, List, [], ◌∷◌, ◌++◌, length, get_or, subst, sym, arith}
use Rattle.std.specs.Prelude.{Contains}
use Rattle.std.specs.List.Sorted.{IsStrictlyIncreasing}
use Rattle.std.specs.declared.cmp.Ordering.{Ordering}
use Rattle.std.proofs.lemmas.Bool.{cases_lt}
use Rattle.std.proofs.lemmas.List.Elements.{Contains-append_left, Contains-get_or, Contains-push, Contains-push_cases}
use Rattle.std.proofs.lemmas.List.{get_or_default}
use Rattle.sector_lattice.specs.Sectors.{integral_cmp}
use Rattle.sector_lattice.specs.Orders.{integral_cmp_total, same_integrals}
use Rattle.ibp_algebra.specs.FormalSum.{FormalSum}
use Rattle.ibp_algebra.specs.Spans.{row_at}
use Rattle.ibp_algebra.proofs.Members.{InSpan-row, InSpan-trans}
use Rattle.sparse_rows.specs.Rows.{IntegralSum}
use Rattle.row_echelon.specs.declared.inserted.Inserted.TheVariants.{Kept, Dependent}
use Rattle.row_echelon.specs.Echelons.{KeptRows, row_numbered, IsNumber, InKeptSpan, Inserts}
use Rattle.row_echelon.proofs.Keeping.{number_below}
use Rattle.row_echelon.specs.RowSpans.{SpanOf}
use Rattle.relation_pick.specs.Picking.{IsInBasis}
use Rattle.relation_pick.specs.Bases.{ListsBasis}
use Rattle.relation_pick.specs.Kept.{KeepsBasis}
use Rattle.relation_pick.proofs.Marking.{increasing_push}

-- the places of the basis below n
pub record ListsBasisBelow {K : Type 0} (order : K → K → Ordering) (candidates : List (FormalSum K)) (n : ℕ) (places : List ℕ) : Type 0 where
  pub ascends : IsStrictlyIncreasing places
  pub lists : (k : ℕ) → Contains places k → (k < n) × IsInBasis order candidates k
  pub others : (k : ℕ) → k < n → Contains places k ⊎ SpanOf order candidates (λ j. j < k) (row_at candidates k)

module _ {K : Type 0} (order : K → K → Ordering) (candidates : List (FormalSum K)) where
  pub ListsBasisBelow-start : ListsBasisBelow order candidates 0 []
  ListsBasisBelow-start = record {
    ascends = λ k within. absurd (omega arith);
    lists = λ k inside. absurd (omega (arith, inside.1));
    others = λ k early. absurd (omega arith);
  }

  -- a candidate in the span of earlier ones isn't listed
  pub ListsBasisBelow-old : (n : ℕ) (places : List ℕ) → SpanOf order candidates (λ j. j < n) (row_at candidates n) → ListsBasisBelow order candidates n places → ListsBasisBelow order candidates (n + 1) places
  ListsBasisBelow-old n places old h = record {
    ascends = h.ascends;
    lists = λ k inside. (omega (arith, (h.lists k inside).0), (h.lists k inside).1);
    others = λ k early.
        ⊎_elim
        (λ (before : k < n). h.others k before)
        (λ (late : n ≤ k). let here : n ≡ k = omega arith in inr (subst (λ m. SpanOf order candidates (λ j. j < m) (row_at candidates m)) here old))
        (cases_lt k n);
  }

  -- and another one is
  pub ListsBasisBelow-new : (n : ℕ) (places : List ℕ) → IsInBasis order candidates n → ListsBasisBelow order candidates n places → ListsBasisBelow order candidates (n + 1) (places ++ n ∷ [])
  ListsBasisBelow-new n places new h = record {
    ascends = increasing_push places n h.ascends (λ k inside. (h.lists k inside).0);
    lists = λ k inside.
        ⊎_elim
        (λ (before : Contains places k). (omega (arith, (h.lists k before).0), (h.lists k before).1))
        (λ (here : n ≡ k). (omega (arith, here), subst (IsInBasis order candidates) here new))
        (Contains-push_cases places n k inside);
    others = λ k early.
        ⊎_elim
        (λ (before : k < n).
        ⊎_elim
        (λ (listed : Contains places k). inl (Contains-append_left places (n ∷ []) k listed))
        (λ (old : SpanOf order candidates (λ j. j < k) (row_at candidates k)). inr old)
        (h.others k before))
        (λ (late : n ≤ k). let here : n ≡ k = omega arith in inl (subst (Contains (places ++ n ∷ [])) here (Contains-push places n)))
        (cases_lt k n);
  }

  pub ListsBasis-whole : (n : ℕ) (places : List ℕ) → length candidates ≤ n → ListsBasisBelow order candidates n places → ListsBasis order candidates places
  ListsBasis-whole n places long h = record {
    covers = record {
      ascends = h.ascends;
      within = λ i d inside.
          (let same : get_or places i 0 ≡ get_or places i d = get_or_default places i 0 d inside in
          subst (λ place. place < length candidates) same (h.lists (get_or places i 0) (Contains-get_or places i 0 inside)).1.listed);
      others = λ k below. h.others k (omega arith);
    };
    lists = λ k. (
      λ inside. (h.lists k inside).1,
      λ basis.
          ⊎_elim
          (λ (listed : Contains places k). listed)
          (λ (old : SpanOf order candidates (λ j. j < k) (row_at candidates k)). absurd (basis.new old))
          (h.others k (omega (arith, basis.listed))),
    );
  }

-- ---- what the echelon answers of a candidate

module _ (candidates : List IntegralSum) (n : ℕ) (kept : KeptRows) (h : KeepsBasis candidates n kept) where
  abbrev IsOld : IntegralSum → Type 0
  IsOld = SpanOf integral_cmp candidates (λ j. j < n)

  kept_is_new : ¬ (InKeptSpan kept (row_at candidates n)) → ¬ (IsOld (row_at candidates n))
  kept_is_new new old = new (InSpan-trans integral_cmp integral_cmp_total same_integrals (row_numbered kept) (IsNumber kept) (row_at candidates) (λ j. j < n) h.spans old)

  dependent_is_old : InKeptSpan kept (row_at candidates n) → IsOld (row_at candidates n)
  dependent_is_old member =
      InSpan-trans integral_cmp integral_cmp_total same_integrals (row_at candidates) (λ j. j < n) (row_numbered kept) (IsNumber kept)
      (λ k is. subst IsOld (sym (h.numbered k is)) (InSpan-row integral_cmp integral_cmp_total same_integrals (row_at candidates) (λ j. j < n) k (number_below kept n k h.below is)))
      member

pub kept_in_basis : (candidates : List IntegralSum) (n : ℕ) (old new : KeptRows) (row : IntegralSum) → Inserts old new row n Kept → row ≡ row_at candidates n → n < length candidates → KeepsBasis candidates n old
    → IsInBasis integral_cmp candidates n
kept_in_basis candidates n old new row inserts row_is within h = record {
  listed = within;
  new = kept_is_new candidates n old h (subst (λ f. ¬ (InKeptSpan old f)) row_is inserts.0);
}

pub dependent_in_span : (candidates : List IntegralSum) (n : ℕ) (old new : KeptRows) (row : IntegralSum) → Inserts old new row n Dependent → row ≡ row_at candidates n → KeepsBasis candidates n old
    → SpanOf integral_cmp candidates (λ j. j < n) (row_at candidates n)
dependent_in_span candidates n old new row inserts row_is h = dependent_is_old candidates n old h (subst (InKeptSpan old) row_is inserts.0)
