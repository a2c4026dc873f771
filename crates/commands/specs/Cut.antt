-- What `cut` writes of a family and a sector, and why it refuses them.
--     IsCutOf family number cut                    the family has this cut family on the sector of this number
--     HasCutSystem family number                   it has one, and this one has a system
--     IsCutText family number text                 the text of the lift of this system
--     IsCutFault family number sector outcome      the first sector of the cut family that isn't worked, and why,
--                                                  where the members of the cut are added to the sector
--     RefusesCut family number status              there is no cut family, or it has no system
use Rattle.std.specs.Prelude.{◌≡◌, ◌<◌, ◌^◌, ℕ, List, Some, None}
use Rattle.sector_lattice.specs.declared.sector.Sector.{Sector}
use Rattle.family.specs.FamilyData.{FamilyData}
use Rattle.system_text.specs.declared.value.System.{System}
use Rattle.system_text.specs.Systems.{system_text}
use Rattle.sector_job.specs.declared.outcome.Outcome.{Outcome}
use Rattle.sector_job.specs.declared.outcome.Outcome.TheVariants as outcome
use Rattle.neat_system.specs.System.{IsSystem, IsFault}
use Rattle.cut_family.specs.Cutting.{IsCutFamily, fault_of}
use Rattle.cut_family.specs.Lifting.{lifted_sector, lifted_system}
use Rattle.commands.specs.declared.status.Status.{Status}
use Rattle.commands.specs.declared.status.Status.TheVariants.{Cut, PairsSpent, DegreeOver, CandidatesOver}

pub record IsCutOf (family : FamilyData) (number : ℕ) (cut : FamilyData) : Type 0 where
  pub sector : number < 2 ^ family.n
  pub no_fault : fault_of number family ≡ None
  pub is_cut : IsCutFamily number family cut

pub record HasCutSystem (family : FamilyData) (number : ℕ) : Type 0 where
  pub cut : FamilyData
  pub is_cut : IsCutOf family number cut
  pub system : System
  pub is_system : IsSystem cut system

pub record IsCutText (family : FamilyData) (number : ℕ) (text : List ℕ) : Type 0 where
  pub of : HasCutSystem family number
  pub is : text ≡ system_text (lifted_system family.n number of.system)

pub record IsCutFault (family : FamilyData) (number : ℕ) (sector : Sector) (outcome : Outcome) : Type 0 where
  pub cut : FamilyData
  pub is_cut : IsCutOf family number cut
  pub named : Sector
  pub fault : IsFault cut named.0 outcome
  pub lifted : sector ≡ lifted_sector family.n number named

abbrev pub RefusesCut : FamilyData → ℕ → Status → Type 0
RefusesCut family number (Cut fault) = fault_of number family ≡ Some fault
RefusesCut family number (PairsSpent sector) = IsCutFault family number sector outcome.PairsSpent
RefusesCut family number (DegreeOver sector) = IsCutFault family number sector outcome.DegreeOver
RefusesCut family number (CandidatesOver sector) = IsCutFault family number sector outcome.CandidatesOver
RefusesCut family number status = ⊥
