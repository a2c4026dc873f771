-- Which candidates are a basis of all, by their places.
--     Covers order candidates places       each candidate that is not listed is in the span of earlier ones
--     ListsBasis order candidates places   the places of the candidates that are not in the span of earlier ones
--     place_at places i                    the number at place i of a list of places
-- Source: linear algebra: the first independent rows, which Gauss's elimination keeps.
use Rattle.std.specs.Prelude.{◌⊎◌, ◌↔◌, ℕ, ◌<◌, List, length, All, Contains, slice_index_or}
use Rattle.std.specs.List.Sorted.{IsStrictlyIncreasing}
use Rattle.std.specs.declared.cmp.Ordering.{Ordering}
use Rattle.ibp_algebra.specs.FormalSum.{FormalSum}
use Rattle.ibp_algebra.specs.Spans.{row_at}
use Rattle.row_echelon.specs.RowSpans.{SpanOf}
use Rattle.relation_pick.specs.Picking.{IsInBasis}

-- each candidate that is not listed is in the span of earlier ones
pub record Covers {K : Type 0} (order : K → K → Ordering) (candidates : List (FormalSum K)) (places : List ℕ) : Type 0 where
  pub ascends : IsStrictlyIncreasing places
  pub within : All (λ place. place < length candidates) places
  pub others : (k : ℕ) → k < length candidates → Contains places k ⊎ SpanOf order candidates (λ j. j < k) (row_at candidates k)

-- the places of the candidates that are not in the span of earlier ones, lowest first
pub record ListsBasis {K : Type 0} (order : K → K → Ordering) (candidates : List (FormalSum K)) (places : List ℕ) : Type 0 where
  pub covers : Covers order candidates places
  pub lists : (k : ℕ) → Contains places k ↔ IsInBasis order candidates k

abbrev pub place_at : List ℕ → ℕ → ℕ
place_at places i = slice_index_or places i 0
