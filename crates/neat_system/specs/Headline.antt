-- What is promised of a system, read off the system and its family alone.
--     rows_of system               the rows of its relations, in their order
--     numbered_row rows number     a row by its number, from 1 on
--     AreAllCandidates             the candidates of all reached sectors
--     IsIdentityIn                 the relation is the identity, at its seed, of a field of the reduced basis of the seed's sector
--     AreIdentities                each relation is one
--     NoPowerRises                 no power rises in the relations
--     IsReductionBy, ReducesAsAll  each declared target is reduced to the same combination as all candidates reduce it to
--     IsIndependentSystem          the rows are independent
--     NoneToSpare                  without any one of them some declared target has another reduced form
--     OneCandidateList             a family has one list of candidates at most
-- Source: relations without raised propagator powers as in NeatIBP of Wu, Böhm, Ma, Xu and Zhang; reduced forms as in
-- Laporta's algorithm.
use Rattle.std.specs.Prelude.{◌≡◌, ◌≢◌, ℕ, ◌-◌, ◌<◌, ◌≤◌, ℤ, List, map, length, All, Any, Contains}
use Rattle.std.specs.Ordering.{nat_cmp}
use Rattle.ibp_algebra.specs.Combination.{combination}
use Rattle.ibp_algebra.specs.FormalSum.{AllKeys}
use Rattle.ibp_algebra.specs.Identity.{DoesNotRise}
use Rattle.ibp_algebra.specs.Spans.{row_at, difference, SameSum, IsIndependent, IsReducedForm}
use Rattle.sector_lattice.specs.Sectors.{integral_cmp, sector_of}
use Rattle.sparse_rows.specs.Rows.{IntegralSum, coefficient_of}
use Rattle.family.specs.Within.{DataWithin}
use Rattle.family.specs.FamilyData.{FamilyData}
use Rattle.row_echelon.specs.RowSpans.{WholeSpan, SpanWithout}
use Rattle.sector_module.specs.SectorBasis.{IsSectorBasis}
use Rattle.sector_job.specs.Candidates.{Integral, IsCandidate, field_numbered}
use Rattle.system_text.specs.declared.value.Reduction.{Reduction}
use Rattle.system_text.specs.declared.value.SectorBlock.{SectorBlock}
use Rattle.system_text.specs.declared.value.System.{System}
use Rattle.system_text.specs.declared.value.Written.{Written}
use Rattle.target_rows.specs.Reductions.{declared_row}
use Rattle.neat_system.specs.System.{AreBooks, SectorWork, AreWorks, all_candidates}

abbrev pub rows_of : System → List IntegralSum
rows_of system = map (λ (relation : Written). relation.row) system.relations

abbrev pub numbered_row : List IntegralSum → ℕ → IntegralSum
numbered_row rows number = row_at rows (number - 1)

pub record AreAllCandidates (family : FamilyData) (candidates : List IntegralSum) : Type 0 where
  pub books : List Integral
  pub are_books : AreBooks family books
  pub works : List SectorWork
  pub are_works : AreWorks family books works
  pub are : candidates ≡ all_candidates works

-- the field is named by the number that the relation gives, from 1 on, in the block of the seed's sector, and
-- integrals of zero sectors are struck
pub record IsIdentityIn (family : FamilyData) (system : System) (relation : Written) : Type 0 where
  pub of_seed : relation.sector.0 ≡ sector_of relation.seed
  pub block : SectorBlock
  pub listed : Contains system.sectors block
  pub of_sector : block.sector ≡ relation.sector
  pub basis : IsSectorBasis family.baikov family.n relation.sector.0 block.fields
  pub from_one : 1 ≤ relation.field
  pub within : relation.field ≤ length block.fields
  pub identity : IsCandidate family relation.seed (field_numbered block.fields relation.field) relation.row

abbrev pub AreIdentities : FamilyData → System → Type 0
AreIdentities family system = (relation : Written) → Contains system.relations relation → IsIdentityIn family system relation

-- β_i is at most α_i where α_i is positive, and at most zero elsewhere
abbrev pub NoPowerRises : FamilyData → System → Type 0
NoPowerRises family system =
    (relation : Written) → Contains system.relations relation
    → (β : List ℤ) → coefficient_of relation.row β ≢ 0 → (length β ≡ family.n) × DoesNotRise relation.seed β

-- the reduced form is that by all candidates, and that by the rows alone, and the weights name rows by their numbers
pub record IsReductionBy (family : FamilyData) (candidates rows : List IntegralSum) (reduction : Reduction) : Type 0 where
  pub by_all : IsReducedForm integral_cmp (WholeSpan integral_cmp candidates) (declared_row family reduction.target) reduction.reduced
  pub by_rows : IsReducedForm integral_cmp (WholeSpan integral_cmp rows) (declared_row family reduction.target) reduction.reduced
  pub numbers : AllKeys (λ number. (1 ≤ number) × (number ≤ length rows)) reduction.weights
  pub weighed : SameSum integral_cmp (difference (declared_row family reduction.target) reduction.reduced) (combination (numbered_row rows) reduction.weights)

pub record ReducesAsAll (family : FamilyData) (system : System) : Type 0 where
  pub targets : map (λ (reduction : Reduction). reduction.target) system.reductions ≡ family.targets
  pub candidates : List IntegralSum
  pub are_all : AreAllCandidates family candidates
  pub each : All (IsReductionBy family candidates (rows_of system)) system.reductions

abbrev pub IsIndependentSystem : System → Type 0
IsIndependentSystem system = IsIndependent nat_cmp integral_cmp (row_at (rows_of system)) (λ place. place < length (rows_of system))

abbrev pub NoneToSpare : FamilyData → System → Type 0
NoneToSpare family system =
    (place : ℕ) → place < length (rows_of system)
    → Any (λ (reduction : Reduction). ¬ (IsReducedForm integral_cmp (SpanWithout integral_cmp (rows_of system) place) (declared_row family reduction.target) reduction.reduced)) system.reductions

abbrev pub OneCandidateList : Type 0
OneCandidateList =
    (family : FamilyData) (first second : List IntegralSum) → DataWithin family → AreAllCandidates family first → AreAllCandidates family second → first ≡ second
