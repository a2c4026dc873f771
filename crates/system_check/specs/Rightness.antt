-- Whether a written text is right for a family.
--     field_named blocks sector k    the field of number k, from 1 on, of the first block of that sector
--     IsRightField, IsRightBlock     each field of a block is in the module of the block's sector
--     IsRightRelation                a relation is the identity, at its seed, of the field that it names
--     IsRightReduction               a target's row less its reduced form is the sum of the weights times the rows
--     IsRightSystem family system    each part of the system is right
--     IsRight family bytes           the bytes are the text of a system that is right
-- Source: relations by integration by parts are checked by the fields that they come from; the text is our own.
use Rattle.std.specs.Prelude.{◌≡◌, ℕ, ◌-◌, ◌≤◌, ◌==◌, ℤ, List, map, length, Option, Some, slice_get}
use Rattle.std.specs.List.{All, find}
use Rattle.std.specs.Option.{option_and_then}
use Rattle.ibp_algebra.specs.Combination.{combination}
use Rattle.ibp_algebra.specs.Field.{unstripped}
use Rattle.ibp_algebra.specs.Identity.{in_sector_of, IsIdentityRow}
use Rattle.ibp_algebra.specs.Spans.{row_at, difference}
use Rattle.sector_lattice.specs.Sectors.{sector_of}
use Rattle.sector_lattice.specs.declared.sector.Sector.{Sector}
use Rattle.sparse_rows.specs.Rows.{IntegralSum, SameRow, is_zero_integral}
use Rattle.family.specs.Conditions.{IsInSectorModule}
use Rattle.family.specs.FamilyData.{FamilyData}
use Rattle.family.specs.declared.parts.StrippedField.{StrippedField}
use Rattle.system_text.specs.SystemValues.{IsSystemValue}
use Rattle.system_text.specs.Systems.{system_text}
use Rattle.system_text.specs.declared.value.SectorBlock.{SectorBlock}
use Rattle.system_text.specs.declared.value.Written.{Written}
use Rattle.system_text.specs.declared.value.Reduction.{Reduction}
use Rattle.system_text.specs.declared.value.System.{System}
use Rattle.target_rows.specs.Reductions.{declared_row}
use Rattle.system_check.specs.declared.limits.TheConstants.{TEXT_LIMIT}

abbrev pub first_block : List SectorBlock → Sector → Option SectorBlock
first_block blocks sector = find (λ block. block.sector.0 == sector.0) blocks

abbrev pub field_named : List SectorBlock → Sector → ℕ → Option StrippedField
field_named blocks sector number = option_and_then (λ block. slice_get block.fields (number - 1)) (first_block blocks sector)

abbrev pub IsRightField : FamilyData → Sector → StrippedField → Type 0
IsRightField family sector field = IsInSectorModule family.baikov sector.0 field

abbrev pub IsRightBlock : FamilyData → SectorBlock → Type 0
IsRightBlock family block = All (IsRightField family block.sector) block.fields

pub record IsRightRelation (family : FamilyData) (blocks : List SectorBlock) (relation : Written) : Type 0 where
  pub field : StrippedField
  pub named : field_named blocks relation.sector relation.field ≡ Some field
  pub seed : sector_of relation.seed ≡ relation.sector.0
  pub row : IsIdentityRow family.n family.gamma family.baikov (unstripped (in_sector_of relation.seed) field.c) relation.seed (is_zero_integral family.zero) relation.row

-- the row of a relation by its number, from 1 on
abbrev pub numbered_row : List Written → ℕ → IntegralSum
numbered_row relations number = row_at (map (λ (relation : Written). relation.row) relations) (number - 1)

pub record IsRightReduction (family : FamilyData) (relations : List Written) (reduction : Reduction) : Type 0 where
  pub numbers : All (λ weight. weight.0 ≤ length relations) reduction.weights
  pub weighed : SameRow (difference (declared_row family reduction.target) reduction.reduced) (combination (numbered_row relations) reduction.weights)

abbrev pub targets_of : List Reduction → List (List ℤ)
targets_of reductions = map (λ (reduction : Reduction). reduction.target) reductions

pub record IsRightSystem (family : FamilyData) (system : System) : Type 0 where
  pub name : system.name ≡ family.name
  pub fields : All (IsRightBlock family) system.sectors
  pub relations : All (IsRightRelation family system.sectors) system.relations
  pub targets : targets_of system.reductions ≡ family.targets
  pub reductions : All (IsRightReduction family system.relations) system.reductions

pub record IsRight (family : FamilyData) (bytes : List ℕ) : Type 0 where
  pub short : length bytes ≤ TEXT_LIMIT
  pub system : System
  pub value : IsSystemValue family.n system
  pub text : bytes ≡ system_text system
  pub right : IsRightSystem family system
