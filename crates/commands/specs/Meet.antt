-- What `meet` writes of a family and a sector, and why it refuses them.
--     IsTangentOf family tangent          the run of sector 0 with the family's pairs is done, and these fields are the
--                                         reduced basis of the tangent module
--     AreMeetSectors n number sectors     the proper supersectors of a sector and the sector itself, in the sector order
--     MeetEndsSo family tangent s end     the runs of the sector by module intersection end so
--     IsMet family tangent sector         they are done
--     HasMeet family number               all runs of the sectors that are to be written are done
--     IsMeetText family number text       the blocks of the reduced bases of these sectors, one after the other
--     StopsAt family tangent sectors s end     s is the first of the sectors whose runs are not done, and they end so
--     IsFirstStop family number s end     likewise, of the sectors that are to be written
--     RefusesMeet family number status    the run of sector 0 isn't done, or some sector's runs are not
use Rattle.std.specs.Prelude.{◌≡◌, ◌<◌, ◌^◌, ◌⊎◌, ℕ, ⊤, map, List, [], ◌∷◌, ◌++◌}
use Rattle.std.specs.List.{All, AllZip, flat_map}
use Rattle.module_vec.specs.ModuleVector.{ModuleVector}
use Rattle.module_basis.specs.PlainRun as run
use Rattle.sector_lattice.specs.declared.sector.Sector.{Sector}
use Rattle.sector_lattice.specs.Sectors.{AreSupersectors}
use Rattle.family.specs.FamilyData.{FamilyData}
use Rattle.family.specs.declared.parts.StrippedField.{StrippedField}
use Rattle.sector_module.specs.SectorBasis.{IsSectorBasis}
use Rattle.meet_module.specs.MeetRuns.{TangentRunEnds, MeetEnds, IsNotDone}
use Rattle.system_text.specs.declared.value.SectorBlock.{SectorBlock}
use Rattle.system_text.specs.Systems.{block_text}
use Rattle.commands.specs.declared.refusal.Refusal.{Refusal}
use Rattle.commands.specs.declared.refusal.Refusal.TheVariants as refusal
use Rattle.commands.specs.declared.status.Status.{Status}
use Rattle.commands.specs.declared.status.Status.TheVariants.{PairsSpent, DegreeOver}

abbrev pub TangentEndsSo : FamilyData → run.RunEnd → Type 0
TangentEndsSo family end = TangentRunEnds family.baikov family.n family.budget end

pub record IsTangentOf (family : FamilyData) (tangent : List StrippedField) : Type 0 where
  pub elements : List ModuleVector
  pub taken : ℕ
  pub done : TangentEndsSo family (run.Done elements taken)
  pub basis : IsSectorBasis family.baikov family.n 0 tangent

pub record AreMeetSectors (n number : ℕ) (sectors : List Sector) : Type 0 where
  pub within : number < 2 ^ n
  pub above : List ℕ
  pub supersectors : AreSupersectors number n above
  pub all : map (λ sector. sector.0) sectors ≡ above ++ number ∷ []

abbrev pub MeetEndsSo : FamilyData → List StrippedField → Sector → run.RunEnd → Type 0
MeetEndsSo family tangent sector end = MeetEnds family.baikov family.n sector.0 family.budget tangent end

pub record IsMet (family : FamilyData) (tangent : List StrippedField) (sector : Sector) : Type 0 where
  pub elements : List ModuleVector
  pub taken : ℕ
  pub ends : MeetEndsSo family tangent sector (run.Done elements taken)

pub record HasMeet (family : FamilyData) (number : ℕ) : Type 0 where
  pub tangent : List StrippedField
  pub is_tangent : IsTangentOf family tangent
  pub sectors : List Sector
  pub are_sectors : AreMeetSectors family.n number sectors
  pub met : All (IsMet family tangent) sectors

-- the block of the reduced basis of the sector
pub record IsBlockOf (family : FamilyData) (sector : Sector) (block : SectorBlock) : Type 0 where
  pub same : block.sector ≡ sector
  pub basis : IsSectorBasis family.baikov family.n sector.0 block.fields

-- the blocks of some sectors, one after the other
pub record AreBlocks (family : FamilyData) (sectors : List Sector) (text : List ℕ) : Type 0 where
  pub blocks : List SectorBlock
  pub bases : AllZip (IsBlockOf family) sectors blocks
  pub is : text ≡ flat_map block_text blocks

pub record IsMeetText (family : FamilyData) (number : ℕ) (text : List ℕ) : Type 0 where
  pub of : HasMeet family number
  pub blocks : AreBlocks family of.sectors text

-- the runs of the sectors before this one are done, and its own end so before they are
pub record StopsAt (family : FamilyData) (tangent : List StrippedField) (sectors : List Sector) (sector : Sector) (end : run.RunEnd) : Type 0 where
  pub before : List Sector
  pub after : List Sector
  pub parts : sectors ≡ before ++ sector ∷ after
  pub met : All (IsMet family tangent) before
  pub stops : IsNotDone end
  pub ends : MeetEndsSo family tangent sector end

pub record IsFirstStop (family : FamilyData) (number : ℕ) (sector : Sector) (end : run.RunEnd) : Type 0 where
  pub tangent : List StrippedField
  pub is_tangent : IsTangentOf family tangent
  pub sectors : List Sector
  pub are_sectors : AreMeetSectors family.n number sectors
  pub at : StopsAt family tangent sectors sector end

-- the run of sector 0 ends so, or it is done and the runs of the first such sector end so
abbrev pub StopsSo : FamilyData → ℕ → Sector → run.RunEnd → Type 0
StopsSo family number sector end = ((sector.0 ≡ 0) × TangentEndsSo family end) ⊎ IsFirstStop family number sector end

abbrev pub RefusesMeet : FamilyData → ℕ → Status → Type 0
RefusesMeet family number (PairsSpent sector) = StopsSo family number sector run.PairsSpent
RefusesMeet family number (DegreeOver sector) = StopsSo family number sector run.DegreeOver
RefusesMeet family number status = ⊥

-- why some of the sectors have no block
abbrev pub IsMeetRefusal : FamilyData → List StrippedField → List Sector → Refusal → Type 0
IsMeetRefusal family tangent sectors (refusal.PairsSpent sector) = StopsAt family tangent sectors sector run.PairsSpent
IsMeetRefusal family tangent sectors (refusal.DegreeOver sector) = StopsAt family tangent sectors sector run.DegreeOver
IsMeetRefusal family tangent sectors refusal.NoMemory = ⊤
IsMeetRefusal family tangent sectors other = ⊥
