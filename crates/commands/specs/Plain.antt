-- What `plain` writes of a family, and why it refuses one.
--     HasSystem family              the family has a system
--     IsSystemText family text      the text of the family's system
--     RefusesPlain family status    the first sector that isn't worked, and why
use Rattle.std.specs.Prelude.{◌≡◌, ℕ, List}
use Rattle.family.specs.FamilyData.{FamilyData}
use Rattle.system_text.specs.declared.value.System.{System}
use Rattle.system_text.specs.Systems.{system_text}
use Rattle.sector_job.specs.declared.outcome.Outcome.TheVariants as outcome
use Rattle.neat_system.specs.System.{IsSystem, IsFault}
use Rattle.commands.specs.declared.status.Status.{Status}
use Rattle.commands.specs.declared.status.Status.TheVariants.{PairsSpent, DegreeOver, CandidatesOver}

pub record HasSystem (family : FamilyData) : Type 0 where
  pub system : System
  pub is_system : IsSystem family system

pub record IsSystemText (family : FamilyData) (text : List ℕ) : Type 0 where
  pub of : HasSystem family
  pub is : text ≡ system_text of.system

abbrev pub RefusesPlain : FamilyData → Status → Type 0
RefusesPlain family (PairsSpent sector) = IsFault family sector.0 outcome.PairsSpent
RefusesPlain family (DegreeOver sector) = IsFault family sector.0 outcome.DegreeOver
RefusesPlain family (CandidatesOver sector) = IsFault family sector.0 outcome.CandidatesOver
RefusesPlain family status = ⊥
