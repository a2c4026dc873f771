-- The tails of a sector are integrals of proper subsectors with as many powers as there are variables.
use Rattle.std.proofs.Common.{◌≡◌, ◌≢◌, ℕ, ◌*◌, ◌+◌, ◌<◌, Bool, true, false, if◌then◌else◌, List, length, refl, sym, ◌∙◌, ap, true≢false}
use Rattle.std.specs.Prelude.{Contains, ◌==◌, ◌%◌}
use Rattle.std.specs.List.{All}
use Rattle.std.specs.Ordering.{eq_by_cmp}
use Rattle.std.proofs.lemmas.Bool.{eqb-true}
use Rattle.std.proofs.lemmas.Bool.Decides.{Decides-eqb, not_from_Decides}
use Rattle.std.proofs.lemmas.List.Elements.{All-contains}
use Rattle.ibp_algebra.specs.Spans.{row_at}
use Rattle.ibp_algebra.proofs.FormKeys.{free_form}
use Rattle.ibp_relation.proofs.RowKeys.{has_powers}
use Rattle.sector_lattice.specs.Sectors.{sector_of, integral_cmp, IsProperSubsector}
use Rattle.sector_lattice.specs.Orders.{integrals_decide}
use Rattle.sparse_rows.specs.Rows.{IntegralSum, coefficient_of}
use Rattle.family.specs.FamilyData.{FamilyData}
use Rattle.family.specs.declared.parts.StrippedField.{StrippedField}
use Rattle.sector_job.specs.Candidates.{Integral, AreCandidates, target_row, OccursInForm, AreTails}
use Rattle.sector_job.specs.Outcomes.{FitsTargets}
use Rattle.sector_job.specs.CandidateRows.{candidate_at}

-- an integral that passes a test does not occur in the row of one that fails it
target_free : (test : Integral → Bool) (target integral : Integral) → test target ≡ true → test integral ≡ false → coefficient_of (target_row target) integral ≡ 0
target_free test target integral passes fails =
    elim (eq_by_cmp integral_cmp target integral) as (λ b. eq_by_cmp integral_cmp target integral ≡ b → (1 * (if b then 1 else 0) + 0) % 2147483647 ≡ 0) [
      | true ↦ λ e. let same : target ≡ integral = (integrals_decide target integral).0 e in absurd (true≢false (sym passes ∙ ap test same ∙ fails))
      | false ↦ λ e. refl
    ] refl

-- what occurs in the forms of targets that pass a test passes it, where no other occurs in a candidate
pub occurring_passes : (test : Integral → Bool) (candidates : List IntegralSum) (targets : List Integral) (integral : Integral)
    → All (λ target. test target ≡ true) targets
    → ((k : ℕ) → k < length candidates → test integral ≡ false → coefficient_of (row_at candidates k) integral ≡ 0)
    → OccursInForm candidates targets integral → test integral ≡ true
occurring_passes test candidates targets integral passes free (place, target, within, is, found) =
    elim (test integral) as (λ b. test integral ≡ b → b ≡ true) [
      | true ↦ λ e. refl
      | false ↦ λ e.
          let target_passes : test target ≡ true = All-contains (λ t. test t ≡ true) targets target passes (place, within, is) in
          absurd (found.occurs (free_form integral_cmp integral (row_at candidates) (λ k. k < length candidates) (target_row target) found.form found.reduced (target_free test target integral target_passes e) (λ k below. free k below e)))
    ] refl

module _ (family : FamilyData) (fields : List StrippedField) (seeds : List Integral) (candidates : List IntegralSum) (are : AreCandidates family fields seeds candidates) where
  free_of_other_powers : (integral : Integral) (k : ℕ) → k < length candidates → (length integral == family.n) ≡ false → coefficient_of (row_at candidates k) integral ≡ 0
  free_of_other_powers integral k within e =
      let found = candidate_at family fields seeds candidates are k within in
      let other : length integral ≢ family.n = not_from_Decides _ (Decides-eqb (length integral) family.n) e in
      elim (coefficient_of (row_at candidates k) integral == 0) as (λ b. (coefficient_of (row_at candidates k) integral == 0) ≡ b → coefficient_of (row_at candidates k) integral ≡ 0) [
        | true ↦ λ z. eqb-true _ 0 z
        | false ↦ λ z. absurd (other (has_powers _ _ _ _ _ _ _ found.2.identity integral (not_from_Decides _ (Decides-eqb _ 0) z)))
      ] refl

  module _ (sector : ℕ) (targets tails : List Integral) (fits : FitsTargets family sector targets) (are_tails : AreTails sector targets candidates tails) where
    pub tails_below : (integral : Integral) → Contains tails integral → IsProperSubsector (sector_of integral) sector
    tails_below integral inside = ((are_tails.members integral).0 inside).0

    pub tails_powers : (integral : Integral) → Contains tails integral → length integral ≡ family.n
    tails_powers integral inside =
        eqb-true (length integral) family.n
        (occurring_passes (λ t. length t == family.n) candidates targets integral
        (λ k d below. (Decides-eqb _ _).1 (fits.powers k d below))
        (free_of_other_powers integral)
        ((are_tails.members integral).0 inside).1)
