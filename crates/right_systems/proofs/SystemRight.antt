-- The system of a family is right: its fields are in the modules of their sectors, its relations are the identities that
-- they name, and its weights give the reductions of the declared targets.
use Rattle.std.proofs.Common.{◌≡◌, ◌≢◌, ℕ, ◌-◌, ◌<◌, ◌≤◌, ◌==◌, true, false, if◌then◌else◌, inl, inr, Some, List, [], ◌∷◌, length, map, sym, subst, ◌∙◌, ap, arith}
use Rattle.std.specs.Prelude.{Contains, slice_get}
use Rattle.std.specs.List.{AllByRecursion}
use Rattle.std.specs.Option.{option_and_then}
use Rattle.std.specs.List.Sorted.{IsStrictlySortedBy}
use Rattle.std.proofs.lemmas.Bool.Decides.{nat_tests}
use Rattle.std.proofs.lemmas.List.{length-map}
use Rattle.std.proofs.lemmas.List.Elements.{All-contains, All-from_get_or, All-weaker}
use Rattle.std.proofs.lemmas.Map.Keys.{sorted_tail}
use Rattle.std.proofs.lemmas.Option.{slice_get-get_or}
use Rattle.ibp_base.proofs.Ascending.{after_first, not_below_itself}
use Rattle.ibp_base.proofs.Members.{All-each, each_by_recursion, in_cases, in_none, in_map}
use Rattle.ibp_algebra.specs.FormalSum.{FormalSum, AllKeys}
use Rattle.sector_lattice.specs.Orders.{sector_cmp_total}
use Rattle.sector_lattice.specs.Sectors.{sector_cmp}
use Rattle.sector_lattice.specs.declared.sector.Sector.{Sector}
use Rattle.sparse_rows.specs.Rows.{IntegralSum}
use Rattle.family.specs.FamilyData.{FamilyData}
use Rattle.family.specs.Within.{DataWithin}
use Rattle.family.specs.declared.parts.StrippedField.{StrippedField}
use Rattle.sector_job.specs.Candidates.{field_numbered}
use Rattle.system_text.specs.declared.value.Reduction.{Reduction}
use Rattle.system_text.specs.declared.value.SectorBlock.{SectorBlock}
use Rattle.system_text.specs.declared.value.System.{System}
use Rattle.system_text.specs.declared.value.Written.{Written}
use Rattle.neat_system.specs.Headline.{rows_of, IsIdentityIn, IsReductionBy}
use Rattle.neat_system.specs.System.{SectorWork, sectors_of, block_of, IsSectorWork, IsSystem}
use Rattle.neat_system.proofs.BasisFields.{basis_member}
use Rattle.neat_system.proofs.SystemRelations.{are_identities}
use Rattle.neat_system.proofs.SystemRows.{reduces_as_all}
use Rattle.system_check.specs.Rightness.{first_block, IsRightField, IsRightBlock, IsRightRelation, IsRightReduction, IsRightSystem}
use Rattle.right_systems.proofs.SystemValue.{at_block}

-- ---- the block of a sector

is_itself : (n : ℕ) → (n == n) ≡ true
is_itself n = grind (arith, nat_tests)

is_another : (a b : ℕ) → a ≢ b → (a == b) ≡ false
is_another a b h = grind (arith, nat_tests, h)

-- sectors ascend, so none has two blocks
one_block : (works : List SectorWork) → IsStrictlySortedBy sector_cmp (sectors_of works) → (work : SectorWork) → Contains works work → first_block (map block_of works) (block_of work).sector ≡ Some (block_of work)
one_block [] up work inside = absurd (in_none work inside)
one_block (first ∷ works) up work inside = elim (in_cases first works work inside) [
  | inl same ↦
      ap (λ b. if b then Some (block_of first) else first_block (map block_of works) (block_of work).sector) (ap (λ (w : SectorWork). w.sector == work.sector) same ∙ is_itself work.sector)
      ∙ ap (λ (w : SectorWork). Some (block_of w)) same
  | inr later ↦
      let below = after_first sector_cmp first.sector (sectors_of works) work.sector up (in_map (λ (w : SectorWork). w.sector) works work later) in
      let apart : first.sector ≢ work.sector = not_below_itself sector_cmp sector_cmp_total first.sector work.sector below in
      ap (λ b. if b then Some (block_of first) else first_block (map block_of works) (block_of work).sector) (is_another first.sector work.sector apart)
      ∙ one_block works (sorted_tail sector_cmp first.sector (sectors_of works) up) work later
]

-- ---- the numbers of weights

each_number : (most limit : ℕ) → most ≤ limit → (weights : FormalSum ℕ) → AllKeys (λ number. (1 ≤ number) × (number ≤ most)) weights → AllByRecursion (λ (weight : ℕ × ℕ). weight.0 ≤ limit) weights
each_number most limit fits [] h = tt
each_number most limit fits (weight ∷ weights) h = (omega (arith, h.0.1, fits), each_number most limit fits weights h.1)

module _ (family : FamilyData) (within : DataWithin family) (system : System) (is : IsSystem family system) where
  first_of_sector : (block : SectorBlock) → Contains system.sectors block → first_block system.sectors block.sector ≡ Some block
  first_of_sector =
      at_block family within system is (λ block. first_block system.sectors block.sector ≡ Some block) (λ work there.
      ap (λ (blocks : List SectorBlock). first_block blocks (block_of work).sector) is.sectors ∙ one_block is.works is.are_works.ordered work there)

  -- ---- fields

  block_is_right : (work : SectorWork) → Contains is.works work → IsRightBlock family (block_of work)
  block_is_right work there =
      let none : StrippedField = record { c = []; b = [] } in
      let worked = (All-contains (IsSectorWork family is.books) is.works work is.are_works.each there).worked in
      All-from_get_or (IsRightField family (block_of work).sector) work.fields none (λ i below.
      (basis_member family.baikov family.n work.sector within.few_variables within.polynomial.variables work.fields worked.basis.basis i none below).0)

  -- ---- relations

  relation_is_right : (relation : Written) → Contains system.relations relation → IsRightRelation family system.sectors relation
  relation_is_right relation inside =
      let none : StrippedField = record { c = []; b = [] } in
      let identity : IsIdentityIn family system relation = are_identities family within system is relation inside in
      let below : relation.field - 1 < length identity.block.fields = omega (arith, identity.from_one, identity.within) in
      let first : first_block system.sectors relation.sector ≡ Some identity.block =
      subst (λ (sector : Sector). first_block system.sectors sector ≡ Some identity.block) identity.of_sector (first_of_sector identity.block identity.listed)
      in
      record {
        field = field_numbered identity.block.fields relation.field;
        named = ap (option_and_then (λ (block : SectorBlock). slice_get block.fields (relation.field - 1))) first ∙ slice_get-get_or identity.block.fields (relation.field - 1) none below;
        seed = sym identity.of_seed;
        row = identity.identity.identity;
      }

  -- ---- reductions

  reduction_is_right : (candidates : List IntegralSum) (reduction : Reduction) → IsReductionBy family candidates (rows_of system) reduction → IsRightReduction family system.relations reduction
  reduction_is_right candidates reduction by =
      let counted : length (rows_of system) ≡ length system.relations = length-map system.relations (λ (relation : Written). relation.row) in
      record {
        numbers = All-each (λ (weight : ℕ × ℕ). weight.0 ≤ length system.relations) reduction.weights (each_number (length (rows_of system)) (length system.relations) (omega (arith, counted)) reduction.weights by.numbers);
        weighed = by.weighed;
      }

  pub is_right : IsRightSystem family system
  is_right =
      let reduces = reduces_as_all family system is in
      record {
        name = is.name;
        fields = All-each (IsRightBlock family) system.sectors (each_by_recursion (IsRightBlock family) system.sectors (at_block family within system is (IsRightBlock family) block_is_right));
        relations = All-each (IsRightRelation family system.sectors) system.relations (each_by_recursion (IsRightRelation family system.sectors) system.relations relation_is_right);
        targets = reduces.targets;
        reductions = All-weaker (IsReductionBy family reduces.candidates (rows_of system)) (IsRightReduction family system.relations) (reduction_is_right reduces.candidates) system.reductions reduces.each;
      }
