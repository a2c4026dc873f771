-- The basis of a sector, worked before the sector has a job.
-- Our own: what a sector's run comes to asks for no targets.
--     AheadValue           a family and a sector
--     IsRun                the reduced basis of the sector's module, or the way in which the sector's run ended before it was done
use Rattle.std.specs.Prelude.{◌≡◌, ℕ, List}
use Rattle.std.specs.List.{All}
use Rattle.mono_order.specs.declared.limits.TheConstants.{RUN_DEGREE}
use Rattle.sector_lattice.specs.declared.sector.Sector.{Sector}
use Rattle.family.specs.Conditions.{IsInSectorModule}
use Rattle.family.specs.FamilyData.{FamilyData}
use Rattle.family.specs.Shapes.{IsField}
use Rattle.family.specs.declared.family.Family.{Family}
use Rattle.family.specs.declared.parts.StrippedField.{StrippedField}
use Rattle.module_basis.specs.PlainRun.{PairsSpent as RunSpent, DegreeOver as RunOver}
use Rattle.sector_job.specs.Outcomes.{EndsSo, HasBasis}
use Rattle.sector_job.specs.declared.ahead.BasisRun.{BasisRun}
use Rattle.sector_job.specs.declared.ahead.BasisRun.TheVariants.{Done, PairsSpent, DegreeOver}

pub record AheadValue : Type 0 where
  pub plan : Family
  pub sector : Sector

abbrev pub ahead_value : Family → Sector → AheadValue
ahead_value plan sector = record { plan = plan; sector = sector }

-- these fields are the reduced basis, and each is a member of the sector's module of bounded degree
pub record IsBasisOf (family : FamilyData) (sector : ℕ) (fields : List StrippedField) : Type 0 where
  pub basis : HasBasis family sector fields
  pub shape : All (λ field. IsField family.n RUN_DEGREE field.c field.b) fields
  pub members : All (IsInSectorModule family.baikov sector) fields

abbrev pub IsRun : FamilyData → ℕ → BasisRun → Type 0
IsRun family sector (Done generators) = (generators.sector.0 ≡ sector) × IsBasisOf family sector generators.fields
IsRun family sector PairsSpent = EndsSo family sector RunSpent
IsRun family sector DegreeOver = EndsSo family sector RunOver
