-- The system of a family, and why there is none.
--     AreBooks                 the books: the one family of sets that meets the equation of the family's plan
--     SectorWork               a sector with the basis of its module, its seeds, its candidates and its tails
--     IsWorkFor                what a sector comes to for some targets, where it is worked
--     IsSectorWork             the same for its book
--     sectors_of               the sectors of a list of these
--     AreWorks                 the reached sectors in sector order, each worked for its book
--     all_candidates           the candidates of all reached sectors, in candidate order
--     all_labels               the seed and the number of the field that each of them is made from
--     block_of                 the sector with its basis
--     relation_at              the candidate at a place, as it is written
--     IsSystem                 the system
--     IsWorkedOut              a sector that is worked for its book
--     IsFault                  the first reached sector in sector order that isn't worked, with its outcome
-- Source: systems of relations whose propagator powers do not rise, sector by sector, as in NeatIBP of Wu, Böhm, Ma, Xu and Zhang.
use Rattle.std.specs.Prelude.{◌≡◌, ◌↔◌, ℕ, List, [], map, length, slice_index_or, Contains}
use Rattle.std.specs.List.{All, flat_map}
use Rattle.std.specs.List.Sorted.{IsStrictlySortedBy}
use Rattle.std.specs.declared.cmp.Ordering.TheVariants.{Less}
use Rattle.ibp_algebra.specs.FormalSum.{FormalSum}
use Rattle.ibp_algebra.specs.Spans.{row_at}
use Rattle.sector_lattice.specs.Sectors.{integral_cmp, sector_cmp, sector_of}
use Rattle.sparse_rows.specs.Rows.{IntegralSum}
use Rattle.family.specs.FamilyData.{FamilyData}
use Rattle.family.specs.declared.parts.StrippedField.{StrippedField}
use Rattle.relation_pick.specs.Picking.{IsPick}
use Rattle.relay_core.specs.Family.{book, IsReached, MeetsEquation}
use Rattle.sector_job.specs.Candidates.{Integral, Label, labels}
use Rattle.sector_job.specs.Outcomes.{IsWorked, IsOutcome, AreTailsOf, opening_targets}
use Rattle.sector_job.specs.declared.outcome.Outcome.{Outcome}
use Rattle.system_text.specs.declared.value.SectorBlock.{SectorBlock}
use Rattle.system_text.specs.declared.value.Written.{Written}
use Rattle.system_text.specs.declared.value.System.{System}
use Rattle.target_rows.specs.Reductions.{declared_row, reductions_of}

abbrev pub AreBooks : FamilyData → List Integral → Type 0
AreBooks family books = MeetsEquation (AreTailsOf family) (opening_targets family) books

pub record SectorWork : Type 0 where
  pub sector : ℕ
  pub fields : List StrippedField
  pub seeds : List Integral
  pub candidates : List IntegralSum
  pub tails : List Integral

-- what the sector comes to for these targets, where it is worked, with the seeds that its candidates are made at
pub record IsWorkFor (family : FamilyData) (targets : List Integral) (work : SectorWork) : Type 0 where
  pub worked : IsWorked family work.sector targets work.fields work.candidates work.tails
  pub with_seeds : work.seeds ≡ worked.seeds

-- the sector is worked for its book
abbrev pub IsSectorWork : FamilyData → List Integral → SectorWork → Type 0
IsSectorWork family books work = IsWorkFor family (book work.sector books) work

abbrev pub sectors_of : List SectorWork → List ℕ
sectors_of works = map (λ work. work.sector) works

pub record AreWorks (family : FamilyData) (books : List Integral) (works : List SectorWork) : Type 0 where
  pub ordered : IsStrictlySortedBy sector_cmp (sectors_of works)
  pub reached : (sector : ℕ) → Contains (sectors_of works) sector ↔ IsReached sector books
  pub each : All (IsSectorWork family books) works

abbrev pub all_candidates : List SectorWork → List IntegralSum
all_candidates works = flat_map (λ work. work.candidates) works

abbrev pub all_labels : List SectorWork → List Label
all_labels works = flat_map (λ work. labels (length work.fields) work.seeds) works

abbrev pub block_of : SectorWork → SectorBlock
block_of work = record { sector = record { 0 = work.sector }; fields = work.fields }

-- the candidate at this place among all, made from the label there
abbrev pub relation_at : List Label → List IntegralSum → ℕ → Written
relation_at labels candidates place =
    let label = slice_index_or labels place (record { seed = []; field = 0 }) in
    record { sector = record { 0 = sector_of label.seed }; seed = label.seed; field = label.field; row = row_at candidates place }

pub record IsSystem (family : FamilyData) (system : System) : Type 0 where
  pub books : List Integral
  pub are_books : AreBooks family books
  pub works : List SectorWork
  pub are_works : AreWorks family books works
  pub written : List ℕ
  pub forms : List IntegralSum
  pub weights : List (FormalSum ℕ)
  pub pick : IsPick integral_cmp (all_candidates works) (map (declared_row family) family.targets) written forms weights
  pub name : system.name ≡ family.name
  pub n : system.n ≡ family.n
  pub sectors : system.sectors ≡ map block_of works
  pub relations : system.relations ≡ map (relation_at (all_labels works) (all_candidates works)) written
  pub reductions : system.reductions ≡ reductions_of written family.targets forms weights

pub record IsWorkedOut (family : FamilyData) (books : List Integral) (sector : ℕ) : Type 0 where
  pub work : SectorWork
  pub of_sector : work.sector ≡ sector
  pub is_work : IsSectorWork family books work

-- the outcome of a reached sector for its book, which isn't worked, while each reached sector before it is
pub record IsFault (family : FamilyData) (sector : ℕ) (outcome : Outcome) : Type 0 where
  pub books : List Integral
  pub are_books : AreBooks family books
  pub reached : IsReached sector books
  pub is_outcome : IsOutcome family sector (book sector books) outcome
  pub unworked : ¬ IsWorkedOut family books sector
  pub earlier : (other : ℕ) → IsReached other books → sector_cmp other sector ≡ Less → IsWorkedOut family books other
