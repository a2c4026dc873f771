-- The system of a family is a value of texts.
use Rattle.std.proofs.Common.{◌≡◌, ℕ, ◌^◌, ◌<◌, ◌≤◌, true, List, [], get_or, length, map, sym, subst, ◌∙◌, ap, arith}
use Rattle.std.specs.Prelude.{Contains}
use Rattle.std.specs.List.{AllByRecursion}
use Rattle.std.proofs.lemmas.List.{length-map}
use Rattle.std.proofs.lemmas.List.Elements.{All-contains, recursion_from_All}
use Rattle.ibp_base.proofs.Members.{each_by_recursion, from_map, in_map}
use Rattle.ibp_algebra.specs.Spans.{row_at}
use Rattle.mono_order.specs.declared.limits.TheConstants.{VARIABLES}
use Rattle.sector_lattice.specs.Sectors.{integral_cmp}
use Rattle.sparse_rows.specs.Rows.{IntegralSum}
use Rattle.family.specs.FamilyData.{FamilyData}
use Rattle.family.specs.Name.{is_name}
use Rattle.family.specs.Shapes.{ArePowers}
use Rattle.family.specs.Within.{DataWithin}
use Rattle.relation_pick.proofs.ByRows.{names_written}
use Rattle.relay_core.proofs.Counts.{number_below}
use Rattle.sector_job.specs.Candidates.{Label}
use Rattle.system_text.specs.SystemValues.{IsStripped, IsBlock, IsRelation, IsReduction, IsSystemValue}
use Rattle.system_text.specs.declared.value.Reduction.{Reduction}
use Rattle.system_text.specs.declared.value.SectorBlock.{SectorBlock}
use Rattle.system_text.specs.declared.value.System.{System}
use Rattle.system_text.specs.declared.value.Written.{Written}
use Rattle.target_rows.specs.Reductions.{declared_row}
use Rattle.target_rows.proofs.PickedPlaces.{places_within}
use Rattle.neat_system.specs.Headline.{IsIdentityIn}
use Rattle.neat_system.specs.System.{SectorWork, sectors_of, all_candidates, all_labels, block_of, relation_at, IsSystem}
use Rattle.neat_system.proofs.FewRelations.{few_relations}
use Rattle.neat_system.proofs.Lengths.{few_pieces}
use Rattle.neat_system.proofs.SystemRelations.{are_identities, zip_at}
use Rattle.neat_system.proofs.SystemRows.{reduces_as_all}
use Rattle.right_systems.proofs.ReductionValues.{are_reductions}
use Rattle.right_systems.proofs.WorkRows.{IsLabelled, reached_below, work_fields, few_fields, work_of, works_labelled}

module _ (family : FamilyData) (within : DataWithin family) (system : System) (is : IsSystem family system) where
  abbrev candidates : List IntegralSum
  candidates = all_candidates is.works

  abbrev no_label : Label
  no_label = record { seed = []; field = 0 }

  -- ---- blocks

  below : (work : SectorWork) → Contains is.works work → work.sector < 2 ^ family.n
  below work there = reached_below family within is.books is.are_books work.sector (work_of family within is.books is.works is.are_books is.are_works work there).1

  block_value : (work : SectorWork) → Contains is.works work → IsBlock family.n (block_of work)
  block_value work there =
      let found = work_of family within is.books is.works is.are_books is.are_works work there in
      record {
        sector = below work there;
        few = omega (arith, few_fields family within is.books work found.0 is.are_books found.1);
        fields = recursion_from_All (IsStripped family.n) work.fields (work_fields family within is.books work found.0);
      }

  -- what holds of the block of each work holds of each block
  pub at_block : (P : SectorBlock → Type 0) → ((work : SectorWork) → Contains is.works work → P (block_of work)) → (block : SectorBlock) → Contains system.sectors block → P block
  at_block P h block inside =
      let found = from_map block_of is.works block (subst (λ (blocks : List SectorBlock). Contains blocks block) is.sectors inside) in
      subst P found.1.1 (h found.0 found.1.0)

  few_sectors : length system.sectors < 2 ^ 32
  few_sectors =
      let listed : length system.sectors ≡ length is.works = ap length is.sectors ∙ length-map is.works block_of in
      let counted : length (sectors_of is.works) ≡ length is.works = length-map is.works (λ work. work.sector) in
      let few : length (sectors_of is.works) ≤ 2 ^ family.n =
      number_below (sectors_of is.works) (2 ^ family.n) is.are_works.ordered
      (λ sector inside.
      let found = from_map (λ (work : SectorWork). work.sector) is.works sector inside in
      subst (λ s. s < 2 ^ family.n) found.1.1 (below found.0 found.1.0))
      in
      let most : length (sectors_of is.works) ≤ 2 ^ VARIABLES = few_pieces family within (length (sectors_of is.works)) few in
      omega (arith, listed, counted, most)

  -- ---- relations

  labelled_at : (place : ℕ) → place < length candidates → IsLabelled family.n (get_or (all_labels is.works) place no_label) (row_at candidates place)
  labelled_at place inside =
      zip_at (IsLabelled family.n) (all_labels is.works) candidates (works_labelled family within is.books is.works is.are_books is.are_works) place no_label [] inside

  listed_at : (place : ℕ) → Contains is.written place → place < length candidates
  listed_at place inside =
      All-contains (λ p. p < length candidates) is.written place
      (places_within integral_cmp candidates (map (declared_row family) family.targets) is.written is.forms is.weights is.pick) inside

  relation_value : (place : ℕ) → Contains is.written place → IsRelation family.n (relation_at (all_labels is.works) candidates place)
  relation_value place inside =
      let h = labelled_at place (listed_at place inside) in
      let relation = relation_at (all_labels is.works) candidates place in
      let listed : Contains system.relations relation =
      subst (λ (relations : List Written). Contains relations relation) (sym is.relations) (in_map (relation_at (all_labels is.works) candidates) is.written place inside)
      in
      let identity : IsIdentityIn family system relation = are_identities family within system is relation listed in
      let sector : identity.block.sector.0 < 2 ^ family.n = at_block (λ block. block.sector.0 < 2 ^ family.n) below identity.block identity.listed in
      record {
        sector = subst (λ s. s.0 < 2 ^ family.n) identity.of_sector sector;
        seed = h.seed;
        field = h.from_one;
        small = h.few;
        row = h.is_row;
      }

  relations_are : AllByRecursion (IsRelation family.n) system.relations
  relations_are =
      each_by_recursion (IsRelation family.n) system.relations (λ relation inside.
      let found = from_map (relation_at (all_labels is.works) candidates) is.written relation (subst (λ (relations : List Written). Contains relations relation) is.relations inside) in
      subst (IsRelation family.n) found.1.1 (relation_value found.0 found.1.0))

  -- ---- reductions

  few_written : length is.written < 2 ^ 31
  few_written =
      let listed : length system.relations ≡ length is.written = ap length is.relations ∙ length-map is.written (relation_at (all_labels is.works) candidates) in
      omega (arith, listed, few_relations family system within is)

  reductions_are : AllByRecursion (IsReduction family.n) system.reductions
  reductions_are =
      subst (λ (reductions : List Reduction). AllByRecursion (IsReduction family.n) reductions) (sym is.reductions)
      (are_reductions family candidates (λ k inside. (labelled_at k inside).is_row) is.written is.pick.ascends few_written family.targets is.forms is.weights is.pick.answers
      (recursion_from_All (ArePowers family.n) family.targets within.target_powers)
      (names_written integral_cmp candidates (map (declared_row family) family.targets) is.written is.forms is.weights is.pick))

  few_reductions : length system.reductions < 2 ^ 32
  few_reductions =
      let targets = (reduces_as_all family system is).targets in
      let counted : length (map (λ (reduction : Reduction). reduction.target) system.reductions) ≡ length system.reductions = length-map system.reductions (λ (reduction : Reduction). reduction.target) in
      omega (arith, counted, ap length targets, within.few_targets)

  pub is_value : is_name family.name ≡ true → IsSystemValue family.n system
  is_value named = record {
    name = ap is_name is.name ∙ named;
    variables = is.n;
    few_sectors = few_sectors;
    sectors = each_by_recursion (IsBlock family.n) system.sectors (at_block (IsBlock family.n) block_value);
    few_relations = omega (arith, few_relations family system within is);
    relations = relations_are;
    few_reductions = few_reductions;
    reductions = reductions_are;
  }
