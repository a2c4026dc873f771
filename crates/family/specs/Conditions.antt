-- The two conditions on a field for a sector, and the module of a sector.
use Rattle.std.specs.Prelude.{ℕ, ◌==◌, Bool, List}
use Rattle.std.specs.Int.{bit_at}
use Rattle.ibp_algebra.specs.Field.{MeetsConditions, IsInModule}
use Rattle.ibp_algebra.specs.Polynomial.{Polynomial}
use Rattle.sector_lattice.specs.declared.sector.Sector.{Sector}
use Rattle.sector_lattice.specs.Subsectors.{is_subsector_of_any}
use Rattle.family.specs.declared.parts.Field.{Field}
use Rattle.family.specs.declared.parts.StrippedField.{StrippedField}

-- the variable at place i, counted from 0, is in the sector of this number
abbrev pub in_sector : ℕ → ℕ → Bool
in_sector number i = bit_at number i == 1

-- z_i divides a_i for each i in the sector, and the sum of a_i times the derivative of p by z_i is b times p
abbrev pub MeetsTwoConditions : Polynomial → ℕ → Field → Type 0
MeetsTwoConditions p sector field = MeetsConditions p (in_sector sector) field.a field.b

-- the stripped field is in the module K_S of the sector: its unstripped form meets the two conditions
abbrev pub IsInSectorModule : Polynomial → ℕ → StrippedField → Type 0
IsInSectorModule p sector field = IsInModule p (in_sector sector) field.c field.b

-- the sector is a subsector of a listed one
abbrev pub is_zero_sector : List Sector → ℕ → Bool
is_zero_sector zero sector = is_subsector_of_any sector zero
