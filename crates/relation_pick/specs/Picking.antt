-- Which of a list of candidates are needed to reduce the targets. Candidates are named by their places.
--     IsInBasis order candidates k          candidate k is not in the span of the earlier ones
--     IsExpression ..                       the target is its form plus a combination of basis candidates
--     IsNeededFor order candidates t k      k has a weight that is not zero in the expression of t over the basis
--     IsWritten order candidates targets k  k is needed for some target
--     AllForms ..                           the reduced form of each target in turn
--     IsPick ..                             which candidates are written, and the answer for each target
--     rows_at candidates places             the rows of the candidates at these places
--     DependsOn order rows target j         without row j the reduced form of the target by these rows changes
--     IsIrredundant ..                      these rows are independent, reduce each target as all do, and each is needed
-- Source: linear algebra; NeatIBP of Wu, Böhm, Ma, Xu and Zhang picks its relations so over a finite field.
use Rattle.std.specs.Prelude.{◌≢◌, ◌↔◌, ℕ, ◌<◌, List, [], ◌∷◌, ◌++◌, length, map, Any, Contains}
use Rattle.std.specs.List.Sorted.{IsStrictlyIncreasing}
use Rattle.std.specs.Ordering.{nat_cmp}
use Rattle.std.specs.declared.cmp.Ordering.{Ordering}
use Rattle.ibp_algebra.specs.FormalSum.{FormalSum, AllKeys, IsCanonical}
use Rattle.row_echelon.specs.Echelons.{number_cmp}
use Rattle.row_echelon.specs.RowSpans.{SpanOf, WholeSpan, SpanWithout}
use Rattle.ibp_algebra.specs.Spans.{row_at, SameSum, coefficient_by, IsIndependent, IsReducedForm}
use Rattle.ibp_algebra.specs.Combination.{combination}

pub record IsInBasis {K : Type 0} (order : K → K → Ordering) (candidates : List (FormalSum K)) (k : ℕ) : Type 0 where
  pub listed : k < length candidates
  pub new : ¬ (SpanOf order candidates (λ j. j < k) (row_at candidates k))

pub record IsExpression {K : Type 0} (order : K → K → Ordering) (candidates : List (FormalSum K)) (target form : FormalSum K) (weights : FormalSum ℕ) : Type 0 where
  pub basis : AllKeys (IsInBasis order candidates) weights
  pub equal : SameSum order target (form ++ combination (row_at candidates) weights)

pub record IsNeededFor {K : Type 0} (order : K → K → Ordering) (candidates : List (FormalSum K)) (target : FormalSum K) (k : ℕ) : Type 0 where
  pub form : FormalSum K
  pub weights : FormalSum ℕ
  pub reduced : IsReducedForm order (WholeSpan order candidates) target form
  pub expressed : IsExpression order candidates target form weights
  pub counts : coefficient_by nat_cmp weights k ≢ 0

abbrev pub IsWritten : {K : Type 0} → (K → K → Ordering) → List (FormalSum K) → List (FormalSum K) → ℕ → Type 0
IsWritten order candidates targets k = Any (λ target. IsNeededFor order candidates target k) targets

-- the answer for one target: the form is sorted with no zero coefficient, and the weights stand in the order
-- of the places
pub record IsAnswer {K : Type 0} (order : K → K → Ordering) (candidates : List (FormalSum K)) (target form : FormalSum K) (weights : FormalSum ℕ) : Type 0 where
  pub reduced : IsReducedForm order (WholeSpan order candidates) target form
  pub canonical : IsCanonical order form
  pub expressed : IsExpression order candidates target form weights
  pub ascending : IsCanonical number_cmp weights

-- and for each target in turn
abbrev pub AllAnswers : {K : Type 0} → (K → K → Ordering) → List (FormalSum K) → List (FormalSum K) → List (FormalSum K) → List (FormalSum ℕ) → Type 0
AllAnswers order candidates [] [] [] = Unit {0}
AllAnswers order candidates (target ∷ targets) (form ∷ forms) (weights ∷ others) =
    IsAnswer order candidates target form weights × AllAnswers order candidates targets forms others
AllAnswers order candidates targets forms weights = ⊥

-- the form for one target
pub record IsForm {K : Type 0} (order : K → K → Ordering) (candidates : List (FormalSum K)) (target form : FormalSum K) : Type 0 where
  pub reduced : IsReducedForm order (WholeSpan order candidates) target form
  pub canonical : IsCanonical order form

abbrev pub AllForms : {K : Type 0} → (K → K → Ordering) → List (FormalSum K) → List (FormalSum K) → List (FormalSum K) → Type 0
AllForms order candidates [] [] = Unit {0}
AllForms order candidates (target ∷ targets) (form ∷ forms) = IsForm order candidates target form × AllForms order candidates targets forms
AllForms order candidates targets forms = ⊥

-- the written places, the reduced forms and the weights of a list of targets
pub record IsPick {K : Type 0} (order : K → K → Ordering) (candidates targets : List (FormalSum K)) (written : List ℕ) (forms : List (FormalSum K)) (weights : List (FormalSum ℕ)) : Type 0 where
  pub ascends : IsStrictlyIncreasing written
  pub lists : (k : ℕ) → Contains written k ↔ IsWritten order candidates targets k
  pub answers : AllAnswers order candidates targets forms weights

-- the rows of the candidates at these places
abbrev pub rows_at : {K : Type 0} → List (FormalSum K) → List ℕ → List (FormalSum K)
rows_at candidates places = map (row_at candidates) places

pub record DependsOn {K : Type 0} (order : K → K → Ordering) (rows : List (FormalSum K)) (target : FormalSum K) (j : ℕ) : Type 0 where
  pub form : FormalSum K
  pub before : IsReducedForm order (WholeSpan order rows) target form
  pub after : ¬ (IsReducedForm order (SpanWithout order rows j) target form)

-- the laws of the rows that are written: they are independent, they reduce each target as all candidates do,
-- and none of them can be left out
pub record IsIrredundant {K : Type 0} (order : K → K → Ordering) (candidates targets rows : List (FormalSum K)) : Type 0 where
  pub independent : IsIndependent nat_cmp order (row_at rows) (λ place. place < length rows)
  pub enough : (target form : FormalSum K) → Contains targets target → IsReducedForm order (WholeSpan order candidates) target form → IsReducedForm order (WholeSpan order rows) target form
  pub needed : (j : ℕ) → j < length rows → Any (λ target. DependsOn order rows target j) targets
