-- Why a text is not right: the first fault that holds.
--     IsFirstAt Right number xs           the element of this number, from 1 on, is the first that is not right
--     IsFirstField family sector k ..     field k of a block of this sector is the first that is not right
--     IsCause family system fault         of the parts of a system, the fault is the first that holds
--     IsFault family bytes fault          of the bytes
-- Source: of our own.
use Rattle.std.specs.Prelude.{◌≡◌, ℕ, ◌+◌, ◌<◌, ◌≤◌, List, ◌∷◌, ◌++◌, length}
use Rattle.std.specs.List.{All}
use Rattle.sector_lattice.specs.declared.sector.Sector.{Sector}
use Rattle.family.specs.FamilyData.{FamilyData}
use Rattle.system_text.specs.BadLines.{IsBadLine}
use Rattle.system_text.specs.SystemValues.{IsSystemValue}
use Rattle.system_text.specs.Systems.{system_text}
use Rattle.system_text.specs.declared.value.SectorBlock.{SectorBlock}
use Rattle.system_text.specs.declared.value.System.{System}
use Rattle.system_check.specs.declared.fault.CheckFault.{CheckFault}
use Rattle.system_check.specs.declared.fault.CheckFault.TheVariants.{TooLong, BadText, BadName, BadField, BadRelation, BadTargets, BadReduction}
use Rattle.system_check.specs.declared.limits.TheConstants.{TEXT_LIMIT}
use Rattle.system_check.specs.Rightness.{IsRightField, IsRightBlock, IsRightRelation, IsRightReduction, targets_of}

pub record IsFirstAt {A : Type 0} (Right : A → Type 0) (number : ℕ) (xs : List A) : Type 0 where
  pub before : List A
  pub x : A
  pub after : List A
  pub split : xs ≡ before ++ x ∷ after
  pub at : number ≡ length before + 1
  pub right : All Right before
  pub wrong : ¬ Right x

pub record IsFirstField (family : FamilyData) (sector : Sector) (number : ℕ) (blocks : List SectorBlock) : Type 0 where
  pub before : List SectorBlock
  pub block : SectorBlock
  pub after : List SectorBlock
  pub split : blocks ≡ before ++ block ∷ after
  pub right : All (IsRightBlock family) before
  pub of_sector : block.sector ≡ sector
  pub first : IsFirstAt (IsRightField family sector) number block.fields

-- the names of earlier faults stand for what is then right
abbrev pub HasName : FamilyData → System → Type 0
HasName family system = system.name ≡ family.name

abbrev pub HasFields : FamilyData → System → Type 0
HasFields family system = All (IsRightBlock family) system.sectors

abbrev pub HasRelations : FamilyData → System → Type 0
HasRelations family system = All (IsRightRelation family system.sectors) system.relations

abbrev pub HasTargets : FamilyData → System → Type 0
HasTargets family system = targets_of system.reductions ≡ family.targets

abbrev pub IsCause : FamilyData → System → CheckFault → Type 0
IsCause family system TooLong = ⊥
IsCause family system (BadText k) = ⊥
IsCause family system BadName = ¬ HasName family system
IsCause family system (BadField sector k) = HasName family system × IsFirstField family sector k system.sectors
IsCause family system (BadRelation k) =
    HasName family system × HasFields family system × IsFirstAt (IsRightRelation family system.sectors) k system.relations
IsCause family system BadTargets =
    HasName family system × HasFields family system × HasRelations family system × (¬ HasTargets family system)
IsCause family system (BadReduction k) =
    HasName family system × HasFields family system × HasRelations family system × HasTargets family system
    × IsFirstAt (IsRightReduction family system.relations) k system.reductions

-- a cause of the system that the bytes are the text of
pub record HasCause (family : FamilyData) (bytes : List ℕ) (fault : CheckFault) : Type 0 where
  pub short : length bytes ≤ TEXT_LIMIT
  pub system : System
  pub value : IsSystemValue family.n system
  pub text : bytes ≡ system_text system
  pub cause : IsCause family system fault

abbrev pub IsFault : FamilyData → List ℕ → CheckFault → Type 0
IsFault family bytes TooLong = TEXT_LIMIT < length bytes
IsFault family bytes (BadText k) = (length bytes ≤ TEXT_LIMIT) × IsBadLine family.n bytes k
IsFault family bytes BadName = HasCause family bytes BadName
IsFault family bytes (BadField sector k) = HasCause family bytes (BadField sector k)
IsFault family bytes (BadRelation k) = HasCause family bytes (BadRelation k)
IsFault family bytes BadTargets = HasCause family bytes BadTargets
IsFault family bytes (BadReduction k) = HasCause family bytes (BadReduction k)
