-- The generators of a sector, as contracts see them.
-- Notation alone.
--     GeneratorsValue     a sector and its stripped fields
use Rattle.std.specs.Prelude.{List}
use Rattle.sector_lattice.specs.declared.sector.Sector.{Sector}
use Rattle.family.specs.declared.parts.StrippedField.{StrippedField}

pub record GeneratorsValue : Type 0 where
  pub sector : Sector
  pub fields : List StrippedField

abbrev pub generators_value : Sector → List StrippedField → GeneratorsValue
generators_value sector fields = record { sector = sector; fields = fields }
