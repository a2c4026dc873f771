-- The folded system: each integral is replaced by the lowest of its images under the permutations of the family.
--     fold_row entries row              the coefficients, added up on the lowest of the images of each integral
--     folded_rows entries relations     the folds of the written rows
--     folded_target family target       the fold of the row of a target
--     folded_at entries relations k     the relation at this place, with its folded row
--     IsFolded family system folded     what is picked of the folded rows for the folded targets
-- Source: symmetry relations as in reductions by Laporta's algorithm; the choice of the rows is that of every system here.
use Rattle.std.specs.Prelude.{◌≡◌, ℕ, ℤ, List, [], map, slice_index_or}
use Rattle.ibp_algebra.specs.FormalSum.{FormalSum, map_keys, normal_form}
use Rattle.sector_lattice.specs.Sectors.{integral_cmp}
use Rattle.sparse_rows.specs.Rows.{IntegralSum}
use Rattle.family.specs.FamilyData.{FamilyData}
use Rattle.relation_pick.specs.Picking.{IsPick}
use Rattle.system_text.specs.declared.value.Written.{Written}
use Rattle.system_text.specs.declared.value.Reduction.{Reduction}
use Rattle.system_text.specs.declared.value.System.{System}
use Rattle.target_rows.specs.Reductions.{declared_row, reductions_of}
use Rattle.symmetry_fold.specs.Images.{lowest}

abbrev pub fold_row : List (List ℕ) → IntegralSum → IntegralSum
fold_row entries row = normal_form integral_cmp (map_keys (lowest entries) row)

abbrev pub folded_rows : List (List ℕ) → List Written → List IntegralSum
folded_rows entries relations = map (λ r. fold_row entries r.row) relations

abbrev pub targets_of : List Reduction → List (List ℤ)
targets_of reductions = map (λ r. r.target) reductions

abbrev pub folded_target : FamilyData → List ℤ → IntegralSum
folded_target family target = fold_row family.symmetries (declared_row family target)

abbrev pub folded_at : List (List ℕ) → List Written → ℕ → Written
folded_at entries relations place =
    let r = slice_index_or relations place (record { sector = record { 0 = 0 }; seed = []; field = 0; row = [] }) in
    record { sector = r.sector; seed = r.seed; field = r.field; row = fold_row entries r.row }

pub record IsFolded (family : FamilyData) (system folded : System) : Type 0 where
  pub written : List ℕ
  pub forms : List IntegralSum
  pub weights : List (FormalSum ℕ)
  pub pick : IsPick integral_cmp (folded_rows family.symmetries system.relations) (map (folded_target family) (targets_of system.reductions)) written forms weights
  pub name : folded.name ≡ system.name
  pub n : folded.n ≡ system.n
  pub sectors : folded.sectors ≡ system.sectors
  pub relations : folded.relations ≡ map (folded_at family.symmetries system.relations) written
  pub reductions : folded.reductions ≡ reductions_of written (targets_of system.reductions) forms weights
