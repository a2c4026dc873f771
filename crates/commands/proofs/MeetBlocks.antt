-- The blocks that the loop of `meet` has written, and where it stops.
use Rattle.std.proofs.Common.{◌≡◌, ℕ, ◌+◌, ◌<◌, inr, Result, Ok, Err, List, [], ◌∷◌, ◌++◌, length, get_or, take, drop, refl, sym, ap, subst, ◌∙◌, append-nil}
use Rattle.std.specs.Prelude.{IfOk, IfErr, OnOk, Vec}
use Rattle.std.specs.declared.alloc.Global.{Global}
use Rattle.std.specs.List.{All, AllZip, flat_map}
use Rattle.std.proofs.lemmas.List.{take_more, take-append-drop, drop_more}
use Rattle.std.proofs.lemmas.List.Concat.{flat_map-append}
use Rattle.std.proofs.lemmas.List.Elements.{All-push}
use Rattle.ibp_base.proofs.Zips.{zip_more}
use Rattle.module_basis.specs.PlainRun as run
use Rattle.module_basis.specs.declared.fault.BasisFault.{BasisFault}
use Rattle.module_basis.specs.declared.fault.BasisFault.TheVariants as basis
use Rattle.sector_lattice.specs.declared.sector.Sector.{Sector}
use Rattle.family.specs.FamilyData.{FamilyData}
use Rattle.family.specs.declared.parts.StrippedField.{StrippedField}
use Rattle.sector_module.specs.SectorBasis.{IsSectorBasis}
use Rattle.meet_module.specs.MeetRuns.{IsNotDone}
use Rattle.system_text.specs.declared.value.SectorBlock.{SectorBlock}
use Rattle.system_text.specs.Systems.{block_text}
use Rattle.commands.specs.Meet.{IsTangentOf, AreMeetSectors, MeetEndsSo, IsMet, IsBlockOf, AreBlocks, IsMeetText, StopsAt, RefusesMeet, IsMeetRefusal}
use Rattle.commands.specs.Refusals.{of_basis_fault}
use Rattle.commands.specs.Answers.{IsAnswer}
use Rattle.commands.specs.declared.refusal.Refusal.{Refusal}
use Rattle.commands.specs.declared.refusal.Refusal.TheVariants as refusal

-- one block more
pub blocks_more : (family : FamilyData) (sectors : List Sector) (i : ℕ) (sector own : Sector) (fields : List StrippedField) (items new : List ℕ) → i < length sectors → sector ≡ get_or sectors i sector → own ≡ sector
    → IsSectorBasis family.baikov family.n sector.0 fields → new ≡ items ++ block_text (record { sector = own; fields = fields }) → AreBlocks family (take i sectors) items → AreBlocks family (take (i + 1) sectors) new
blocks_more family sectors i sector own fields items new below is same basis pushed made =
    let block : SectorBlock = record { sector = own; fields = fields } in
    let zipped : AllZip (IsBlockOf family) (take (i + 1) sectors) (made.blocks ++ block ∷ []) = zip_more (IsBlockOf family) sectors made.blocks i sector block below is made.bases (record { same = same; basis = basis }) in
    record {
      blocks = made.blocks ++ block ∷ [];
      bases = zipped;
      is = pushed ∙ ap (λ (l : List ℕ). l ++ block_text block) made.is ∙ ap (λ (l : List ℕ). flat_map block_text made.blocks ++ l) (sym (append-nil (block_text block)))
          ∙ sym (flat_map-append block_text made.blocks (block ∷ []));
    }

pub met_more : (family : FamilyData) (tangent : List StrippedField) (sectors : List Sector) (i : ℕ) (sector : Sector) → i < length sectors → sector ≡ get_or sectors i sector → IsMet family tangent sector
    → All (IsMet family tangent) (take i sectors) → All (IsMet family tangent) (take (i + 1) sectors)
met_more family tangent sectors i sector below is met all =
    let more : take (i + 1) sectors ≡ take i sectors ++ sector ∷ [] = take_more sectors i sector below ∙ ap (λ (s : Sector). take i sectors ++ s ∷ []) (sym is) in
    subst (All (IsMet family tangent)) (sym more) (All-push (IsMet family tangent) (take i sectors) sector all met)

stops_at : (family : FamilyData) (tangent : List StrippedField) (sectors : List Sector) (i : ℕ) (sector : Sector) (end : run.RunEnd) → i < length sectors → sector ≡ get_or sectors i sector
    → All (IsMet family tangent) (take i sectors) → IsNotDone end → MeetEndsSo family tangent sector end → StopsAt family tangent sectors sector end
stops_at family tangent sectors i sector end below is met stops ends =
    record {
      before = take i sectors;
      after = drop (i + 1) sectors;
      parts = sym (take-append-drop i sectors) ∙ ap (λ (l : List Sector). take i sectors ++ l) (drop_more sectors i sector below ∙ ap (λ (s : Sector). s ∷ drop (i + 1) sectors) (sym is));
      met = met;
      stops = stops;
      ends = ends;
    }

-- a fault of the runs of a sector, where those of the sectors before it are done
pub refused_at : (family : FamilyData) (tangent : List StrippedField) (sectors : List Sector) (i : ℕ) (sector : Sector) (fault : BasisFault) → i < length sectors → sector ≡ get_or sectors i sector
    → All (IsMet family tangent) (take i sectors) → (fault ≡ basis.PairsSpent → MeetEndsSo family tangent sector run.PairsSpent) → (fault ≡ basis.DegreeOver → MeetEndsSo family tangent sector run.DegreeOver)
    → IsMeetRefusal family tangent sectors (of_basis_fault sector fault)
refused_at family tangent sectors i sector basis.PairsSpent below is met spent over = stops_at family tangent sectors i sector run.PairsSpent below is met tt (spent refl)
refused_at family tangent sectors i sector basis.DegreeOver below is met spent over = stops_at family tangent sectors i sector run.DegreeOver below is met tt (over refl)
refused_at family tangent sectors i sector basis.NoMemory below is met spent over = tt

-- ---- the answer

-- the blocks of all sectors are the text, and where some are refused the family is
pub answers_meet : (family : FamilyData) (number : ℕ) (tangent : List StrippedField) → IsTangentOf family tangent → (sectors : List Sector) → AreMeetSectors family.n number sectors → (result : Result (Vec ℕ Global) Refusal)
    → IfOk result (λ text. AreBlocks family sectors text.items) → OnOk result (All (IsMet family tangent) sectors) → IfErr result (IsMeetRefusal family tangent sectors)
    → IsAnswer (IsMeetText family number) (RefusesMeet family number) result
answers_meet family number tangent is_tangent sectors are (Ok text) blocks met refused =
    record { of = record { tangent = tangent; is_tangent = is_tangent; sectors = sectors; are_sectors = are; met = met }; blocks = blocks }
answers_meet family number tangent is_tangent sectors are (Err refusal.NoMemory) blocks met refused = tt
answers_meet family number tangent is_tangent sectors are (Err (refusal.PairsSpent sector)) blocks met refused = inr (record { tangent = tangent; is_tangent = is_tangent; sectors = sectors; are_sectors = are; at = refused })
answers_meet family number tangent is_tangent sectors are (Err (refusal.DegreeOver sector)) blocks met refused = inr (record { tangent = tangent; is_tangent = is_tangent; sectors = sectors; are_sectors = are; at = refused })
answers_meet family number tangent is_tangent sectors are (Err other) blocks met refused = absurd refused
