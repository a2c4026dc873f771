-- What comes of the work on a sector for some of its integrals.
-- After NeatIBP (Wu, Boehm, Ma, Xu, Zhang), which works sector by sector from the top down; the budgets are our own.
--     FitsTargets          a non-empty ascending list of integrals of the sector, which isn't zero
--     HasBasis             the sector's run is done, and these fields are the reduced basis of its module
--     IsOver               there are more candidates than the budget allows
--     IsWorked             the basis, the candidates and the tails
--     IsOutcome            the outcome
--     AreTailsOf           the tails: those of a sector that is worked, and none where the outcome is another
--     opening_targets      the targets of a family that are in no zero sector
use Rattle.std.specs.Prelude.{◌≡◌, ◌≢◌, ℕ, ◌*◌, ◌<◌, ◌≤◌, false, not, List, [], length, filter}
use Rattle.std.specs.List.{All}
use Rattle.sector_lattice.specs.Sectors.{Ascends}
use Rattle.sparse_rows.specs.Rows.{IntegralSum, is_zero_integral}
use Rattle.family.specs.Conditions.{is_zero_sector}
use Rattle.family.specs.FamilyData.{FamilyData}
use Rattle.family.specs.declared.parts.StrippedField.{StrippedField}
use Rattle.module_vec.specs.ModuleVector.{ModuleVector}
use Rattle.module_basis.specs.PlainRun.{RunEnd, Done, PairsSpent as RunSpent, DegreeOver as RunOver}
use Rattle.sector_module.specs.Factors.{SectorRunEnds}
use Rattle.sector_module.specs.SectorBasis.{IsSectorBasis}
use Rattle.relay_core.specs.Jobs.{AreOf}
use Rattle.sector_job.specs.Candidates.{Integral, AreSeedsFor, AreCandidates, AreTails}
use Rattle.sector_job.specs.declared.outcome.Outcome.{Outcome}
use Rattle.sector_job.specs.declared.outcome.Outcome.TheVariants.{Worked, PairsSpent, DegreeOver, CandidatesOver}

pub record FitsTargets (family : FamilyData) (sector : ℕ) (targets : List Integral) : Type 0 where
  pub some : targets ≢ []
  pub ascend : Ascends targets
  pub of_sector : AreOf sector targets
  pub powers : All (λ target. length target ≡ family.n) targets
  pub not_zero : is_zero_sector family.zero sector ≡ false

-- the sector's run with the pairs of the file ends so
abbrev pub EndsSo : FamilyData → ℕ → RunEnd → Type 0
EndsSo family sector end = SectorRunEnds family.baikov family.n sector family.budget end

pub record HasBasis (family : FamilyData) (sector : ℕ) (fields : List StrippedField) : Type 0 where
  pub elements : List ModuleVector
  pub taken : ℕ
  pub done : EndsSo family sector (Done elements taken)
  pub basis : IsSectorBasis family.baikov family.n sector fields

pub record IsOver (family : FamilyData) (sector : ℕ) (targets : List Integral) : Type 0 where
  pub fields : List StrippedField
  pub basis : HasBasis family sector fields
  pub seeds : List Integral
  pub are_seeds : AreSeedsFor family sector targets seeds
  pub over : family.budget.candidates < length fields * length seeds

pub record IsWorked (family : FamilyData) (sector : ℕ) (targets : List Integral) (fields : List StrippedField) (candidates : List IntegralSum) (tails : List Integral) : Type 0 where
  pub basis : HasBasis family sector fields
  pub seeds : List Integral
  pub are_seeds : AreSeedsFor family sector targets seeds
  pub within : length fields * length seeds ≤ family.budget.candidates
  pub are_candidates : AreCandidates family fields seeds candidates
  pub are_tails : AreTails sector targets candidates tails

abbrev pub IsOutcome : FamilyData → ℕ → List Integral → Outcome → Type 0
IsOutcome family sector targets (Worked generators candidates tails) = (generators.sector.0 ≡ sector) × IsWorked family sector targets generators.fields candidates tails
IsOutcome family sector targets PairsSpent = EndsSo family sector RunSpent
IsOutcome family sector targets DegreeOver = EndsSo family sector RunOver
IsOutcome family sector targets CandidatesOver = IsOver family sector targets

abbrev pub tails_in : Outcome → List Integral
tails_in (Worked generators candidates tails) = tails
tails_in PairsSpent = []
tails_in DegreeOver = []
tails_in CandidatesOver = []

pub record AreTailsOf (family : FamilyData) (sector : ℕ) (targets tails : List Integral) : Type 0 where
  pub fits : FitsTargets family sector targets
  pub outcome : Outcome
  pub is_outcome : IsOutcome family sector targets outcome
  pub are : tails ≡ tails_in outcome

abbrev pub opening_targets : FamilyData → List Integral
opening_targets family = filter (λ target. not (is_zero_integral family.zero target)) family.targets
