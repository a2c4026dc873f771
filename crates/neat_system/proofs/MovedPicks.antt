-- A pick from the candidates at places that cover all is one from all candidates, and writes the same.
use Rattle.std.proofs.Common.{◌≡◌, ℕ, ◌<◌, List, length, map, sym, subst}
use Rattle.std.specs.List.{All}
use Rattle.std.proofs.lemmas.List.{length-map}
use Rattle.std.proofs.lemmas.List.Elements.{All-contains}
use Rattle.ibp_algebra.specs.FormalSum.{FormalSum, map_keys}
use Rattle.ibp_algebra.specs.Spans.{row_at}
use Rattle.sector_lattice.specs.Sectors.{integral_cmp}
use Rattle.sparse_rows.specs.Rows.{IntegralSum}
use Rattle.family.specs.FamilyData.{FamilyData}
use Rattle.relation_pick.specs.Bases.{Covers, place_at}
use Rattle.relation_pick.specs.Marks.{AnyNamed}
use Rattle.relation_pick.specs.Picking.{IsPick, rows_at}
use Rattle.relation_pick.proofs.ByRows.{names_written}
use Rattle.relation_pick.proofs.Covers.{pick_of_cover}
use Rattle.sector_job.specs.Candidates.{Label}
use Rattle.target_rows.specs.Reductions.{declared_row, reductions_of}
use Rattle.target_rows.proofs.PickedPlaces.{places_within}
use Rattle.neat_system.specs.Gathering.{label_at}
use Rattle.neat_system.specs.System.{relation_at}
use Rattle.neat_system.proofs.MovedPlaces.{relations_moved, reductions_moved}

pub record IsMoved (family : FamilyData) (candidates : List IntegralSum) (places written : List ℕ) (forms : List IntegralSum) (weights : List (FormalSum ℕ)) : Type 0 where
  pub pick : IsPick integral_cmp candidates (map (declared_row family) family.targets) (map (place_at places) written) forms (map (map_keys (place_at places)) weights)
  pub relations : (labels : List Label) → map (relation_at (map (label_at labels) places) (rows_at candidates places)) written ≡ map (relation_at labels candidates) (map (place_at places) written)
  pub reductions : reductions_of written family.targets forms weights ≡ reductions_of (map (place_at places) written) family.targets forms (map (map_keys (place_at places)) weights)

module _ (family : FamilyData) (candidates : List IntegralSum) (places : List ℕ) (covers : Covers integral_cmp candidates places) (written : List ℕ) (forms : List IntegralSum) (weights : List (FormalSum ℕ)) (pick : IsPick integral_cmp (rows_at candidates places) (map (declared_row family) family.targets) written forms weights) where
  abbrev targets : List IntegralSum
  targets = map (declared_row family) family.targets

  within : All (λ i. i < length places) written
  within =
      subst (λ n. All (λ i. i < n) written) (length-map places (row_at candidates)) (places_within integral_cmp (rows_at candidates places) targets written forms weights pick)

  named : (k : ℕ) → AnyNamed weights k → k < length places
  named k inside = All-contains (λ i. i < length places) written k within (names_written integral_cmp (rows_at candidates places) targets written forms weights pick k inside)

  pub moved_pick : IsMoved family candidates places written forms weights
  moved_pick = record {
    pick = pick_of_cover candidates targets places written forms weights covers pick;
    relations = λ labels. relations_moved places labels candidates written within;
    reductions = sym (reductions_moved places covers.ascends written within family.targets forms weights named);
  }
