-- What is left of a row by an elimination is its reduced form.
use Rattle.std.proofs.Common.{◌≡◌, ℕ, ◌<◌, ◌≤◌, List, [], ◌++◌, length, ⊎_elim, arith}
use Rattle.std.specs.Prelude.{ℤ}
use Rattle.std.specs.Ordering.{eq_by_cmp}
use Rattle.std.proofs.lemmas.Bool.{cases_lt}
use Rattle.sector_lattice.specs.Sectors.{integral_cmp}
use Rattle.sector_lattice.specs.Orders.{integral_cmp_total, same_integrals, integrals_decide}
use Rattle.ibp_algebra.specs.FormalSum.{FormalSum, AllKeys}
use Rattle.ibp_algebra.proofs.SumLaws.{SameCoefficients-refl, SameCoefficients-trans, SameCoefficients-append}
use Rattle.ibp_algebra.specs.Combination.{combination}
use Rattle.ibp_algebra.specs.Spans.{row_at, difference, coefficient_by, IsReducedForm}
use Rattle.sparse_rows.specs.Rows.{IntegralSum, SameRow}
use Rattle.ibp_algebra.proofs.Members.{AllKeys-counting}
use Rattle.ibp_algebra.proofs.ReducedForms.{difference-from_sum}
use Rattle.row_echelon.specs.Echelons.{row_numbered, InKeptSpan}
use Rattle.row_echelon.specs.KeptRows.{Entries, reduced_rows, originals, NoPivot, IsEchelon}
use Rattle.row_echelon.proofs.Pivots.{IsPivot, lead_is_pivot, not_both}
use Rattle.row_echelon.proofs.KeptSpans.{span_of_kept, span_of_reduced}

zero_at_pivot : (es : Entries) (rest : IntegralSum) (key : List ℤ) → AllKeys (NoPivot es) rest → IsPivot es key → coefficient_by integral_cmp rest key ≡ 0
zero_at_pivot es rest key reduced pivot =
    ⊎_elim
    (λ (some : 0 < coefficient_by integral_cmp rest key).
    absurd (not_both es key (AllKeys-counting integral_cmp integral_cmp_total same_integrals (NoPivot es) rest reduced key (λ none. omega (arith, none))) pivot))
    (λ (none : coefficient_by integral_cmp rest key ≤ 0). omega arith)
    (cases_lt 0 (coefficient_by integral_cmp rest key))

pub IsReducedForm-left : (es : Entries) (row rest : IntegralSum) (steps : FormalSum ℕ) → IsEchelon es
    → SameRow row (rest ++ combination (row_at (reduced_rows es)) steps) → AllKeys (λ i. i < length es) steps → AllKeys (NoPivot es) rest
    → IsReducedForm integral_cmp (InKeptSpan (originals [] es)) row rest
IsReducedForm-left es row rest steps h sum places reduced = record {
  within = span_of_reduced es h.numbers (difference row rest)
      (record { weights = steps; among = places; equal = difference-from_sum integral_cmp row rest (combination (row_at (reduced_rows es)) steps) sum });
  reduced = λ v key member lead. zero_at_pivot es rest key reduced (lead_is_pivot es h.form v key (span_of_kept es v member) lead);
}

pub sum_by_weights : (es : Entries) (row rest : IntegralSum) (steps weights : FormalSum ℕ) → SameRow row (rest ++ combination (row_at (reduced_rows es)) steps)
    → SameRow (combination (row_at (reduced_rows es)) steps) (combination (row_numbered (originals [] es)) weights)
    → SameRow row (rest ++ combination (row_numbered (originals [] es)) weights)
sum_by_weights es row rest steps weights sum same =
    SameCoefficients-trans sum (SameCoefficients-append (eq_by_cmp integral_cmp) integrals_decide (SameCoefficients-refl (eq_by_cmp integral_cmp) rest) same)
