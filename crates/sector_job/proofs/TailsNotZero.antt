-- No tail lies in a zero sector: no target does, and no integral of a candidate.
use Rattle.std.proofs.Common.{◌≡◌, ℕ, ◌<◌, Bool, true, false, not, List, length, refl, ◌∙◌, ap}
use Rattle.std.specs.Prelude.{Contains, slice_index_or}
use Rattle.std.proofs.lemmas.List.{get_or_default}
use Rattle.ibp_algebra.specs.Spans.{row_at}
use Rattle.ibp_relation.proofs.RowKeys.{none_struck}
use Rattle.sparse_rows.specs.Rows.{IntegralSum, coefficient_of, is_zero_integral}
use Rattle.family.specs.Conditions.{is_zero_sector}
use Rattle.family.specs.FamilyData.{FamilyData}
use Rattle.family.specs.declared.parts.StrippedField.{StrippedField}
use Rattle.ibp_base.proofs.Members.{in_none}
use Rattle.sector_job.specs.Candidates.{Integral, AreCandidates, AreTails}
use Rattle.sector_job.specs.CandidateRows.{candidate_at}
use Rattle.sector_job.specs.Outcomes.{FitsTargets, IsOutcome, tails_in}
use Rattle.sector_job.specs.Tails.{occurring_passes}
use Rattle.sector_job.specs.declared.outcome.Outcome.{Outcome}
use Rattle.sector_job.specs.declared.outcome.Outcome.TheVariants.{Worked, PairsSpent, DegreeOver, CandidatesOver}

not_false : (b : Bool) → not b ≡ false → b ≡ true
not_false true e = refl
not_false false e = absurd (let clash : true ≡ false = e in cc)

not_true : (b : Bool) → not b ≡ true → b ≡ false
not_true true e = absurd (let clash : false ≡ true = e in cc)
not_true false e = refl

module _ (family : FamilyData) (fields : List StrippedField) (seeds : List Integral) (candidates : List IntegralSum) (are : AreCandidates family fields seeds candidates) where
  free_of_struck : (integral : Integral) (k : ℕ) → k < length candidates → not (is_zero_integral family.zero integral) ≡ false → coefficient_of (row_at candidates k) integral ≡ 0
  free_of_struck integral k within e =
      let found = candidate_at family fields seeds candidates are k within in
      none_struck _ _ _ _ _ _ _ found.2.identity integral (not_false _ e)

  module _ (sector : ℕ) (targets tails : List Integral) (fits : FitsTargets family sector targets) (are_tails : AreTails sector targets candidates tails) where
    target_not_zero : (target : Integral) → Contains targets target → is_zero_integral family.zero target ≡ false
    target_not_zero target there = ap (λ s. is_zero_sector family.zero s) (fits.of_sector target there) ∙ fits.not_zero

    tail_not_zero : (integral : Integral) → Contains tails integral → is_zero_integral family.zero integral ≡ false
    tail_not_zero integral inside =
        not_true _
        (occurring_passes (λ t. not (is_zero_integral family.zero t)) candidates targets integral
        (λ k d below. ap not (target_not_zero (slice_index_or targets k d) (k, below, get_or_default targets k _ d below)))
        (free_of_struck integral)
        ((are_tails.members integral).0 inside).1)

pub tails_not_zero : (family : FamilyData) (sector : ℕ) (targets : List Integral) (outcome : Outcome) → FitsTargets family sector targets → IsOutcome family sector targets outcome
    → (integral : Integral) → Contains (tails_in outcome) integral → is_zero_integral family.zero integral ≡ false
tails_not_zero family sector targets (Worked generators candidates tails) fits h integral inside =
    tail_not_zero family generators.fields h.1.seeds candidates h.1.are_candidates sector targets tails fits h.1.are_tails integral inside
tails_not_zero family sector targets PairsSpent fits h integral inside = absurd (in_none integral inside)
tails_not_zero family sector targets DegreeOver fits h integral inside = absurd (in_none integral inside)
tails_not_zero family sector targets CandidatesOver fits h integral inside = absurd (in_none integral inside)
