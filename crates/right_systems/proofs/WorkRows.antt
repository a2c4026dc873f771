-- The sectors of a family's works, their fields, and the labels with the rows of their candidates.
use Rattle.std.proofs.Common.{◌≡◌, ℕ, zero, suc, ◌+◌, ◌-◌, ◌*◌, ◌^◌, ◌<◌, ◌≤◌, inl, inr, List, [], ◌∷◌, length, refl, sym, subst, ◌∙◌, arith}
use Rattle.std.specs.Prelude.{Contains}
use Rattle.std.specs.List.{All, AllZip}
use Rattle.std.proofs.lemmas.List.Elements.{All-contains}
use Rattle.ibp_base.proofs.Members.{in_head, in_tail, in_map}
use Rattle.mono_order.specs.declared.limits.TheConstants.{RUN_DEGREE}
use Rattle.sector_lattice.specs.Orders.{sector_below}
use Rattle.sector_lattice.specs.Sectors.{sector_of}
use Rattle.sector_lattice.specs.declared.seeding.TheConstants.{SEED_LIMIT}
use Rattle.sparse_rows.specs.Rows.{IntegralSum}
use Rattle.family.specs.declared.limits.TheConstants.{CANDIDATE_LIMIT}
use Rattle.family.specs.declared.parts.StrippedField.{StrippedField}
use Rattle.family.specs.Conditions.{IsInSectorModule}
use Rattle.family.specs.FamilyData.{FamilyData}
use Rattle.family.specs.Shapes.{IsField, ArePowers}
use Rattle.family.specs.Within.{DataWithin}
use Rattle.family.proofs.CapsWithin.{caps_of-within}
use Rattle.relay_core.specs.Family.{book, IsReached}
use Rattle.relay_core.proofs.SectorBooks.{a_member}
use Rattle.sector_job.specs.Candidates.{Integral, Label, labels, IsCandidate, AreSeedsFor, field_numbered, dots_bound, rank_bound}
use Rattle.sector_job.specs.PieceLaws.{opened, lawful}
use Rattle.sector_job.proofs.Listing.{zip_append}
use Rattle.sector_job.proofs.SeedPowers.{seed_powers}
use Rattle.system_text.specs.SystemValues.{IsRow}
use Rattle.neat_system.specs.System.{AreBooks, SectorWork, IsSectorWork, AreWorks, all_candidates, all_labels}
use Rattle.neat_system.proofs.BasisFields.{basis_member}
use Rattle.neat_system.proofs.Lengths.{within_budget}
use Rattle.neat_system.proofs.OneSystem.{family_with}
use Rattle.neat_system.proofs.SystemRelations.{zip_weaker, IsLabelOf, each_label}
use Rattle.neat_system.proofs.WorkSeeds.{seeds_of}
use Rattle.right_systems.proofs.Corners.{corner, corner_seed}
use Rattle.right_systems.proofs.RowIntegrals.{candidate_row}
use Rattle.right_systems.proofs.SectorDegrees.{fields_within}

some_of : {A : Type 0} (xs : List A) (x : A) → Contains xs x → 1 ≤ length xs
some_of xs x inside = omega (arith, inside.1)

-- a factor is at most the product, where the other one is not zero
factor_below : (a b limit : ℕ) → 1 ≤ b → a * b ≤ limit → a ≤ limit
factor_below a zero limit some h = absurd (omega arith)
factor_below a (suc b) limit some h = let product : a * suc b ≡ a + a * b = grind arith in omega (arith, product, h)

-- a label in the bounds of texts, with the row of its candidate
pub record IsLabelled (n : ℕ) (label : Label) (row : IntegralSum) : Type 0 where
  pub seed : ArePowers n label.seed
  pub from_one : 1 ≤ label.field
  pub few : label.field < 2 ^ 32
  pub is_row : IsRow n row

module _ (family : FamilyData) (within : DataWithin family) (books : List Integral) where
  book_powers : AreBooks family books → (t : Integral) → Contains books t → length t ≡ family.n
  unfolding family_with
  book_powers meets t inside = elim ((meets.members t).0 inside) [
    | inl target ↦ opened (family_with family within) t target
    | inr from ↦ (lawful (family_with family within)).powers from.sector (book from.sector books) from.tail.all from.tail.named t from.tail.among
  ]

  -- a reached sector has an integral of the family
  record HasIntegral (sector : ℕ) : Type 0 where
    integral : Integral
    powers : length integral ≡ family.n
    of_sector : sector_of integral ≡ sector

  has_integral : AreBooks family books → (sector : ℕ) → IsReached sector books → HasIntegral sector
  has_integral meets sector reached =
      let member = a_member sector books reached in
      record { integral = member.integral; powers = book_powers meets member.integral member.inside; of_sector = member.same }

  pub reached_below : AreBooks family books → (sector : ℕ) → IsReached sector books → sector < 2 ^ family.n
  reached_below meets sector reached =
      let found = has_integral meets sector reached in
      subst (λ s. s < 2 ^ family.n) found.of_sector (subst (λ n. sector_of found.integral < 2 ^ n) found.powers (sector_below found.integral))

  -- ---- one sector

  module _ (work : SectorWork) (is : IsSectorWork family books work) where
    seeds_are : AreSeedsFor family work.sector (book work.sector books) work.seeds
    seeds_are = seeds_of family (book work.sector books) work is

    seed_at : (seed : Integral) → Contains work.seeds seed → ArePowers family.n seed × (sector_of seed ≡ work.sector)
    seed_at seed inside =
        let caps = caps_of-within family.n family.bounds family.caps work.sector within.bounds_within within.caps_within in
        let h = (seeds_are.members seed).0 inside in
        let dots = dots_bound family work.sector (book work.sector books) in
        let rank = rank_bound family work.sector (book work.sector books) in
        let few : dots ≤ SEED_LIMIT = omega (arith, caps.0) in
        let low : rank ≤ SEED_LIMIT = omega (arith, caps.1) in
        (seed_powers work.sector family.n dots rank seed few low h, h.of_sector)

    pub work_fields : All (λ f. IsField family.n RUN_DEGREE f.c f.b) work.fields
    work_fields =
        let basis = is.worked.basis in
        fields_within family.baikov family.n work.sector within.few_variables within.polynomial.variables within.polynomial.degree_within family.budget basis.elements basis.taken basis.done work.fields basis.basis

    pub few_fields : AreBooks family books → IsReached work.sector books → length work.fields ≤ CANDIDATE_LIMIT
    few_fields meets reached =
        let found = has_integral meets work.sector reached in
        let targets = book work.sector books in
        let seed = corner found.integral in
        let own = corner_seed family.n (dots_bound family work.sector targets) (rank_bound family work.sector targets) found.integral found.powers in
        let inside : Contains work.seeds seed = (seeds_are.members seed).1 (record { of_n = own.of_n; of_sector = own.of_sector ∙ found.of_sector; few_dots = own.few_dots; low_rank = own.low_rank }) in
        let few : length work.fields * length work.seeds ≤ family.budget.candidates = within_budget family targets work is in
        let fields : length work.fields ≤ family.budget.candidates = factor_below (length work.fields) (length work.seeds) family.budget.candidates (some_of work.seeds seed inside) few in
        omega (arith, fields, within.budget_within.candidates)

    labelled : length work.fields ≤ CANDIDATE_LIMIT → (label : Label) (row : IntegralSum) → IsLabelOf (length work.fields) work.seeds label
        → IsCandidate family label.seed (field_numbered work.fields label.field) row → IsLabelled family.n label row
    labelled few label row of candidate =
        let none : StrippedField = record { c = []; b = [] } in
        let below : label.field - 1 < length work.fields = omega (arith, of.from_one, of.within) in
        let seed = seed_at label.seed of.at_seed in
        let field = field_numbered work.fields label.field in
        let member = (basis_member family.baikov family.n work.sector within.few_variables within.polynomial.variables work.fields is.worked.basis.basis (label.field - 1) none below).0 in
        let own : IsInSectorModule family.baikov (sector_of label.seed) field = subst (λ s. IsInSectorModule family.baikov s field) (sym seed.1) member in
        record {
          seed = seed.0;
          from_one = of.from_one;
          few = omega (arith, of.within, few);
          is_row = candidate_row family within label.seed seed.0 field (work_fields (label.field - 1) none below) own row candidate;
        }

    work_labelled : AreBooks family books → IsReached work.sector books → AllZip (IsLabelled family.n) (labels (length work.fields) work.seeds) work.candidates
    work_labelled meets reached =
        zip_weaker (λ label row. IsCandidate family label.seed (field_numbered work.fields label.field) row) (IsLabelled family.n) (IsLabelOf (length work.fields) work.seeds)
        (labelled (few_fields meets reached))
        (labels (length work.fields) work.seeds) work.candidates
        (each_label (length work.fields) work.seeds work.seeds (λ z inside. inside))
        (subst (λ (seeds : List Integral). AllZip (λ label row. IsCandidate family label.seed (field_numbered work.fields label.field) row) (labels (length work.fields) seeds) work.candidates)
        (sym is.with_seeds) is.worked.are_candidates)

  -- ---- all sectors

  all_labelled : (works : List SectorWork) → AreBooks family books → ((w : SectorWork) → Contains works w → IsSectorWork family books w × IsReached w.sector books)
      → AllZip (IsLabelled family.n) (all_labels works) (all_candidates works)
  all_labelled [] meets each = tt
  all_labelled (work ∷ works) meets each =
      let first = each work (in_head work works work refl) in
      zip_append (IsLabelled family.n) (labels (length work.fields) work.seeds) (all_labels works) work.candidates (all_candidates works)
      (work_labelled work first.0 meets first.1)
      (all_labelled works meets (λ w there. each w (in_tail work works w there)))

  module _ (works : List SectorWork) (meets : AreBooks family books) (are : AreWorks family books works) where
    pub work_of : (w : SectorWork) → Contains works w → IsSectorWork family books w × IsReached w.sector books
    work_of w there = (
      All-contains (IsSectorWork family books) works w are.each there,
      (are.reached w.sector).0 (in_map (λ (work : SectorWork). work.sector) works w there),
    )

    pub works_labelled : AllZip (IsLabelled family.n) (all_labels works) (all_candidates works)
    works_labelled = all_labelled works meets work_of
