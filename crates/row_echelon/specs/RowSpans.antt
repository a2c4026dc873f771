-- Spans of the rows of a list.
--     SpanOf order rows Places      the span of the rows at these places
--     WholeSpan order rows          the span of all rows
--     SpanWithout order rows j      the span of all rows but the one at j
-- Source: linear algebra.
use Rattle.std.specs.Prelude.{◌≢◌, ℕ, ◌<◌, List, length}
use Rattle.std.specs.declared.cmp.Ordering.{Ordering}
use Rattle.ibp_algebra.specs.FormalSum.{FormalSum}
use Rattle.ibp_algebra.specs.Spans.{row_at, InSpan}

abbrev pub SpanOf : {K : Type 0} → (K → K → Ordering) → List (FormalSum K) → (ℕ → Type 0) → FormalSum K → Type 0
SpanOf order rows Places f = InSpan order (row_at rows) Places f

abbrev pub WholeSpan : {K : Type 0} → (K → K → Ordering) → List (FormalSum K) → FormalSum K → Type 0
WholeSpan order rows = SpanOf order rows (λ place. place < length rows)

abbrev pub SpanWithout : {K : Type 0} → (K → K → Ordering) → List (FormalSum K) → ℕ → FormalSum K → Type 0
SpanWithout order rows j = SpanOf order rows (λ place. (place < length rows) × (place ≢ j))
