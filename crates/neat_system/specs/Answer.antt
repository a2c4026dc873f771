-- What is answered for a family.
--     fault_in              the fault of a sector by its outcome, where it isn't worked
--     HasFault              some sector has one of the three faults
--     IsAnswer              a system is the family's, and a fault is the family's
--     IsAnswerFor           where memory is found, the family's system or its fault is the answer, and each fault comes
--                           exactly where it is the family's
-- Source: of our own; budgets are the family's, and the literature has none.
use Rattle.std.specs.Prelude.{◌≡◌, ◌≢◌, ◌↔◌, ◌⊎◌, ℕ, Option, None, Some, Result, Ok, Err, IfOk}
use Rattle.sector_lattice.specs.declared.sector.Sector.{Sector}
use Rattle.family.specs.FamilyData.{FamilyData}
use Rattle.sector_job.specs.declared.outcome.Outcome.{Outcome}
use Rattle.sector_job.specs.declared.outcome.Outcome.TheVariants as outcome
use Rattle.system_text.specs.declared.value.System.{System}
use Rattle.neat_system.specs.declared.fault.SystemFault.{SystemFault}
use Rattle.neat_system.specs.declared.fault.SystemFault.TheVariants.{PairsSpent, DegreeOver, CandidatesOver, NoMemory}
use Rattle.neat_system.specs.System.{IsSystem, IsFault}

abbrev pub fault_in : Sector → Outcome → Option SystemFault
fault_in sector (outcome.Worked generators candidates tails) = None
fault_in sector outcome.PairsSpent = Some (PairsSpent sector)
fault_in sector outcome.DegreeOver = Some (DegreeOver sector)
fault_in sector outcome.CandidatesOver = Some (CandidatesOver sector)

abbrev pub HasFault : FamilyData → Type 0
HasFault family = (sector : ℕ) × (IsFault family sector outcome.PairsSpent ⊎ (IsFault family sector outcome.DegreeOver ⊎ IsFault family sector outcome.CandidatesOver))

abbrev pub IsAnswer : FamilyData → Result System SystemFault → Type 0
IsAnswer family (Ok system) = IsSystem family system
IsAnswer family (Err (PairsSpent sector)) = IsFault family sector.0 outcome.PairsSpent
IsAnswer family (Err (DegreeOver sector)) = IsFault family sector.0 outcome.DegreeOver
IsAnswer family (Err (CandidatesOver sector)) = IsFault family sector.0 outcome.CandidatesOver
IsAnswer family (Err NoMemory) = Unit {0}

pub record IsAnswerFor (family : FamilyData) (result : Result System SystemFault) : Type 0 where
  pub system : IfOk result (IsSystem family)
  pub complete : (system : System) → IsSystem family system → result ≢ Err NoMemory → result ≡ Ok system
  pub pairs : (sector : Sector) → result ≢ Err NoMemory → (result ≡ Err (PairsSpent sector)) ↔ IsFault family sector.0 outcome.PairsSpent
  pub degree : (sector : Sector) → result ≢ Err NoMemory → (result ≡ Err (DegreeOver sector)) ↔ IsFault family sector.0 outcome.DegreeOver
  pub candidates : (sector : Sector) → result ≢ Err NoMemory → (result ≡ Err (CandidatesOver sector)) ↔ IsFault family sector.0 outcome.CandidatesOver
