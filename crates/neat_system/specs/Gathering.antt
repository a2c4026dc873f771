-- What is gathered of the pieces of a relay, where each sector is worked.
--     label_view, label_views   a label of the code as the definitions have it; a list of them
--     IsPieceOf                 the piece is of this family
--     fault_of                  the fault of a piece that isn't worked
--     IsWorkedPiece             the piece is right, and worked
--     IsWorkOf                  what the piece's sector comes to for the piece's targets
--     IsOwnWork                 the same for the piece's own family
--     label_at                  the label at a place
--     Gains                     one more work is gathered, with its candidates at places that cover all of them
--     Gathers                   the works of these pieces are gathered, each in turn, with candidates at such places
--     IsFirstFault              the fault of the first piece that has one
--     Writes                    a system of what is gathered
-- Source: lists joined in sector order, as NeatIBP of Wu, Böhm, Ma, Xu and Zhang does it.
use Rattle.std.specs.Prelude.{◌≡◌, ℕ, ◌<◌, Option, None, Some, List, [], ◌∷◌, ◌++◌, map, length, slice_index_or}
use Rattle.std.specs.List.{AllZip}
use Rattle.ibp_algebra.specs.FormalSum.{FormalSum}
use Rattle.sector_lattice.specs.Sectors.{integral_cmp}
use Rattle.sparse_rows.specs.Rows.{IntegralSum}
use Rattle.family.specs.FamilyData.{FamilyData}
use Rattle.family.specs.FamilyView.{family_view}
use Rattle.row_echelon.specs.References.{rows_of}
use Rattle.relation_pick.specs.Bases.{Covers}
use Rattle.relation_pick.specs.Picking.{IsPick, rows_at}
use Rattle.sector_job.specs.Candidates.{Label as LabelData, labels}
use Rattle.sector_job.specs.Results.{ResultValue, IsResult}
use Rattle.system_text.specs.declared.value.System.{System}
use Rattle.neat_system.specs.declared.fault.SystemFault.{SystemFault}
use Rattle.neat_system.specs.declared.labels.Label.{Label}
use Rattle.neat_system.specs.declared.gathering.Gathered.{Gathered}
use Rattle.neat_system.specs.Answer.{fault_in}
use Rattle.target_rows.specs.Reductions.{declared_row, reductions_of}
use Rattle.neat_system.specs.System.{SectorWork, IsWorkFor, all_candidates, all_labels, block_of, relation_at}

abbrev pub label_view : Label → LabelData
label_view label = record { seed = label.seed; field = label.field }

abbrev pub label_views : List Label → List LabelData
label_views labels = map label_view labels

abbrev pub IsPieceOf : FamilyData → ResultValue → Type 0
IsPieceOf family piece = family_view piece.plan ≡ family

abbrev pub fault_of : ResultValue → Option SystemFault
fault_of piece = fault_in piece.sector piece.outcome

pub record IsWorkedPiece (piece : ResultValue) : Type 0 where
  pub is_result : IsResult piece
  pub none : fault_of piece ≡ None

pub record IsWorkOf (family : FamilyData) (piece : ResultValue) (work : SectorWork) : Type 0 where
  pub of_sector : work.sector ≡ piece.sector.0
  pub is_work : IsWorkFor family piece.targets work

abbrev pub IsOwnWork : ResultValue → SectorWork → Type 0
IsOwnWork piece work = IsWorkOf (family_view piece.plan) piece work

abbrev pub label_at : List LabelData → ℕ → LabelData
label_at labels place = slice_index_or labels place (record { seed = []; field = 0 })

pub record Gains (piece : ResultValue) (old new : Gathered) : Type 0 where
  pub work : SectorWork
  pub is_work : IsOwnWork piece work
  pub places : List ℕ
  pub covers : Covers integral_cmp work.candidates places
  pub blocks : new.blocks.items ≡ old.blocks.items ++ block_of work ∷ []
  pub labels : label_views new.labels.items ≡ label_views old.labels.items ++ map (label_at (labels (length work.fields) work.seeds)) places
  pub candidates : rows_of new.candidates.items ≡ rows_of old.candidates.items ++ rows_at work.candidates places

pub record Gathers (pieces : List ResultValue) (gathered : Gathered) : Type 0 where
  pub works : List SectorWork
  pub are_works : AllZip IsOwnWork pieces works
  pub places : List ℕ
  pub covers : Covers integral_cmp (all_candidates works) places
  pub blocks : gathered.blocks.items ≡ map block_of works
  pub labels : label_views gathered.labels.items ≡ map (label_at (all_labels works)) places
  pub candidates : rows_of gathered.candidates.items ≡ rows_at (all_candidates works) places

pub record IsFirstFault (pieces : List ResultValue) (fault : SystemFault) : Type 0 where
  pub place : ℕ
  pub piece : ResultValue
  pub within : place < length pieces
  pub is : piece ≡ slice_index_or pieces place piece
  pub is_result : IsResult piece
  pub has : fault_of piece ≡ Some fault
  pub earlier : (k : ℕ) (d : ResultValue) → k < place → IsWorkedPiece (slice_index_or pieces k d)

pub record Writes (family : FamilyData) (gathered : Gathered) (system : System) : Type 0 where
  pub written : List ℕ
  pub forms : List IntegralSum
  pub weights : List (FormalSum ℕ)
  pub pick : IsPick integral_cmp (rows_of gathered.candidates.items) (map (declared_row family) family.targets) written forms weights
  pub name : system.name ≡ family.name
  pub n : system.n ≡ family.n
  pub sectors : system.sectors ≡ gathered.blocks.items
  pub relations : system.relations ≡ map (relation_at (label_views gathered.labels.items) (rows_of gathered.candidates.items)) written
  pub reductions : system.reductions ≡ reductions_of written family.targets forms weights
