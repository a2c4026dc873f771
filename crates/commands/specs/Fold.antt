-- What `fold` writes of a family, and why it refuses one.
--     HasFold family              each permutation of the family is a symmetry of it, and it has a system
--     IsFoldText family text      the text of the folded system
--     RefusesFold family status   the first permutation that isn't a symmetry, or the first sector that isn't worked
use Rattle.std.specs.Prelude.{◌≡◌, ℕ, List}
use Rattle.family.specs.FamilyData.{FamilyData}
use Rattle.system_text.specs.declared.value.System.{System}
use Rattle.system_text.specs.Systems.{fold_text}
use Rattle.sector_job.specs.declared.outcome.Outcome.{Outcome}
use Rattle.sector_job.specs.declared.outcome.Outcome.TheVariants as outcome
use Rattle.neat_system.specs.System.{IsSystem, IsFault}
use Rattle.symmetry_fold.specs.Folding.{IsFolded}
use Rattle.symmetry_fold.specs.Symmetries.{AreSymmetries, IsFirstBroken}
use Rattle.commands.specs.declared.status.Status.{Status}
use Rattle.commands.specs.declared.status.Status.TheVariants.{NotSymmetric, PairsSpent, DegreeOver, CandidatesOver}

pub record HasFold (family : FamilyData) : Type 0 where
  pub symmetric : AreSymmetries family
  pub system : System
  pub is_system : IsSystem family system

pub record IsFoldText (family : FamilyData) (text : List ℕ) : Type 0 where
  pub of : HasFold family
  pub folded : System
  pub is_folded : IsFolded family of.system folded
  pub is : text ≡ fold_text folded

pub record IsFoldFault (family : FamilyData) (sector : ℕ) (outcome : Outcome) : Type 0 where
  pub symmetric : AreSymmetries family
  pub fault : IsFault family sector outcome

abbrev pub RefusesFold : FamilyData → Status → Type 0
RefusesFold family (NotSymmetric k) = IsFirstBroken family k
RefusesFold family (PairsSpent sector) = IsFoldFault family sector.0 outcome.PairsSpent
RefusesFold family (DegreeOver sector) = IsFoldFault family sector.0 outcome.DegreeOver
RefusesFold family (CandidatesOver sector) = IsFoldFault family sector.0 outcome.CandidatesOver
RefusesFold family status = ⊥
