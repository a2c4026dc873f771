-- The laws of the written candidates by their places. A law for a list of their rows follows from these.
use Rattle.std.proofs.Common.{◌≢◌, ℕ, List}
use Rattle.std.specs.Prelude.{Any, Contains}
use Rattle.std.specs.Ordering.{nat_cmp}
use Rattle.std.specs.declared.cmp.Ordering.{Ordering}
use Rattle.ibp_algebra.specs.FormalSum.{FormalSum}
use Rattle.ibp_algebra.specs.Spans.{row_at, IsIndependent, IsReducedForm}
use Rattle.row_echelon.specs.RowSpans.{SpanOf, WholeSpan}

-- the span of the candidates at these places but for one
abbrev pub SpanBut : {K : Type 0} → (K → K → Ordering) → List (FormalSum K) → (ℕ → Type 0) → ℕ → FormalSum K → Type 0
SpanBut order candidates Places j = SpanOf order candidates (λ k. Places k × (k ≢ j))

pub record DependsOnPlace {K : Type 0} (order : K → K → Ordering) (candidates : List (FormalSum K)) (Places : ℕ → Type 0) (target : FormalSum K) (j : ℕ) : Type 0 where
  pub form : FormalSum K
  pub before : IsReducedForm order (SpanOf order candidates Places) target form
  pub after : ¬ (IsReducedForm order (SpanBut order candidates Places j) target form)

pub record IsIrredundantAt {K : Type 0} (order : K → K → Ordering) (candidates targets : List (FormalSum K)) (Places : ℕ → Type 0) : Type 0 where
  pub independent : IsIndependent nat_cmp order (row_at candidates) Places
  pub enough : (target form : FormalSum K) → Contains targets target → IsReducedForm order (WholeSpan order candidates) target form → IsReducedForm order (SpanOf order candidates Places) target form
  pub needed : (j : ℕ) → Places j → Any (λ target. DependsOnPlace order candidates Places target j) targets
