-- What `basis` writes of a family and a sector, and why it refuses them.
--     IsRunDone family number             the sector's run with the family's pairs is done
--     IsBasisText family number text      the block of the reduced basis of the sector, whose run is done
--     RefusesBasis family number status   the sector's run spends the pairs, or a degree of it is over
use Rattle.std.specs.Prelude.{◌≡◌, ℕ, List}
use Rattle.module_vec.specs.ModuleVector.{ModuleVector}
use Rattle.module_basis.specs.PlainRun as run
use Rattle.family.specs.FamilyData.{FamilyData}
use Rattle.family.specs.declared.parts.StrippedField.{StrippedField}
use Rattle.sector_module.specs.SectorBasis.{IsSectorBasis}
use Rattle.sector_job.specs.Outcomes.{EndsSo}
use Rattle.system_text.specs.Systems.{block_text}
use Rattle.commands.specs.declared.status.Status.{Status}
use Rattle.commands.specs.declared.status.Status.TheVariants.{PairsSpent, DegreeOver}

pub record IsRunDone (family : FamilyData) (number : ℕ) : Type 0 where
  pub elements : List ModuleVector
  pub taken : ℕ
  pub ends : EndsSo family number (run.Done elements taken)

pub record IsBasisText (family : FamilyData) (number : ℕ) (text : List ℕ) : Type 0 where
  pub done : IsRunDone family number
  pub fields : List StrippedField
  pub basis : IsSectorBasis family.baikov family.n number fields
  pub block : text ≡ block_text (record { sector = record { 0 = number }; fields = fields })

abbrev pub RefusesBasis : FamilyData → ℕ → Status → Type 0
RefusesBasis family number (PairsSpent sector) = (sector.0 ≡ number) × EndsSo family number run.PairsSpent
RefusesBasis family number (DegreeOver sector) = (sector.0 ≡ number) × EndsSo family number run.DegreeOver
RefusesBasis family number status = ⊥
