-- What is kept of the first n candidates: those that are not in the span of earlier ones.
--     KeepsBasis candidates n kept       these rows are kept of the first n candidates
--     AnswersBy kept targets forms all   the answers for these targets, whichever candidates the rows are kept of
use Rattle.std.specs.Prelude.{◌≡◌, ℕ, ◌<◌, List, length}
use Rattle.ibp_algebra.specs.FormalSum.{FormalSum}
use Rattle.sector_lattice.specs.Sectors.{integral_cmp}
use Rattle.ibp_algebra.specs.Spans.{row_at}
use Rattle.sparse_rows.specs.Rows.{IntegralSum}
use Rattle.row_echelon.specs.Echelons.{KeptRows, row_numbered, IsNumber, InKeptSpan, IsBelow}
use Rattle.relation_pick.specs.Picking.{IsInBasis, AllAnswers}

pub record KeepsBasis (candidates : List IntegralSum) (n : ℕ) (kept : KeptRows) : Type 0 where
  pub below : IsBelow kept n
  pub numbered : (k : ℕ) → IsNumber kept k → row_numbered kept k ≡ row_at candidates k
  pub basis : (k : ℕ) → IsNumber kept k → IsInBasis integral_cmp candidates k
  pub spans : (k : ℕ) → k < n → InKeptSpan kept (row_at candidates k)

abbrev pub AnswersBy : KeptRows → List IntegralSum → List IntegralSum → List (FormalSum ℕ) → Type 0
AnswersBy kept targets forms all =
    (candidates : List IntegralSum) → KeepsBasis candidates (length candidates) kept → AllAnswers integral_cmp candidates targets forms all
