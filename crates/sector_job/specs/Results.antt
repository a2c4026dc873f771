-- What came of a sector, as contracts see it.
-- Our own: the value of a piece of work in the relay of sectors.
--     ResultValue           a family, a sector, targets, and an outcome
--     IsResult              the targets fit the sector, and the outcome is that of the sector for them
--     HasSeeds              the seeds that a worked sector's candidates are made at, and none where it isn't worked
--     HasBasisOf            the places of its candidates that are not in the span of earlier ones, and none likewise
--     IsKept                these three of one result
use Rattle.std.specs.Prelude.{◌≡◌, ℕ, List, []}
use Rattle.sector_lattice.specs.Sectors.{integral_cmp}
use Rattle.sector_lattice.specs.declared.sector.Sector.{Sector}
use Rattle.family.specs.declared.family.Family.{Family}
use Rattle.family.specs.FamilyData.{FamilyData}
use Rattle.family.specs.FamilyView.{family_view}
use Rattle.relation_pick.specs.Bases.{ListsBasis}
use Rattle.relay_core.specs.Family.{Opening, TailRelation}
use Rattle.sector_job.specs.declared.outcome.Outcome.{Outcome}
use Rattle.sector_job.specs.declared.outcome.Outcome.TheVariants.{Worked, PairsSpent, DegreeOver, CandidatesOver}
use Rattle.sector_job.specs.Candidates.{Integral, AreSeedsFor}
use Rattle.sector_job.specs.Outcomes.{FitsTargets, IsOutcome, AreTailsOf, opening_targets}

pub record ResultValue : Type 0 where
  pub plan : Family
  pub sector : Sector
  pub targets : List Integral
  pub outcome : Outcome

abbrev pub result_value : Family → Sector → List Integral → Outcome → ResultValue
result_value plan sector targets outcome = record { plan = plan; sector = sector; targets = targets; outcome = outcome }

pub record IsResult (value : ResultValue) : Type 0 where
  pub fits : FitsTargets (family_view value.plan) value.sector.0 value.targets
  pub is_outcome : IsOutcome (family_view value.plan) value.sector.0 value.targets value.outcome

abbrev pub HasSeeds : FamilyData → ℕ → List Integral → Outcome → List Integral → Type 0
HasSeeds family sector targets (Worked generators candidates tails) seeds = AreSeedsFor family sector targets seeds
HasSeeds family sector targets PairsSpent seeds = seeds ≡ []
HasSeeds family sector targets DegreeOver seeds = seeds ≡ []
HasSeeds family sector targets CandidatesOver seeds = seeds ≡ []

abbrev pub HasBasisOf : Outcome → List ℕ → Type 0
HasBasisOf (Worked generators candidates tails) places = ListsBasis integral_cmp candidates places
HasBasisOf PairsSpent places = places ≡ []
HasBasisOf DegreeOver places = places ≡ []
HasBasisOf CandidatesOver places = places ≡ []

-- what is kept of a sector: that it is right, with the seeds and the basis of its candidates
pub record IsKept (value : ResultValue) (seeds : List Integral) (basis : List ℕ) : Type 0 where
  pub is_result : IsResult value
  pub has_seeds : HasSeeds (family_view value.plan) value.sector.0 value.targets value.outcome seeds
  pub has_basis : HasBasisOf value.outcome basis

-- what the relay of a family opens with
abbrev pub opening_of : Family → Opening
opening_of plan = record { n = plan.n; targets = opening_targets (family_view plan) }

abbrev pub tails_of_plan : Family → TailRelation
tails_of_plan plan = AreTailsOf (family_view plan)
