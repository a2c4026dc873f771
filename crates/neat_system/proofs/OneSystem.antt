-- A family within the limits of a file has at most one system, at most one fault, and never both.
use Rattle.std.proofs.Common.{◌≡◌, ℕ, List, [], ◌∷◌, refl, sym, ◌∙◌, ap, subst}
use Rattle.std.specs.Prelude.{map}
use Rattle.std.specs.List.{AllByRecursion}
use Rattle.std.specs.Ordering.{ordering_reverse}
use Rattle.std.specs.declared.cmp.Ordering.TheVariants.{Less, Equal, Greater}
use Rattle.std.proofs.lemmas.List.Elements.{recursion_from_All, All-contains}
use Rattle.sector_lattice.specs.Sectors.{sector_cmp, integral_cmp}
use Rattle.sector_lattice.specs.Orders.{sector_cmp_total, same_sectors, integral_cmp_total, same_integrals}
use Rattle.sparse_rows.specs.Rows.{IntegralSum}
use Rattle.family.specs.Within.{DataWithin}
use Rattle.family.specs.FamilyData.{FamilyData}
use Rattle.family.specs.declared.family.Family.{Family}
use Rattle.family.specs.declared.parts.StrippedField.{StrippedField}
use Rattle.relation_pick.specs.Picking.{IsPick}
use Rattle.relation_pick.proofs.Uniqueness.{IsPick-unique}
use Rattle.relay_core.specs.Family.{book, IsReached}
use Rattle.relay_core.proofs.Facts.{one_family}
use Rattle.ibp_base.proofs.Ascending.{same_members}
use Rattle.ibp_base.proofs.Members.{from_map}
use Rattle.sector_job.specs.Candidates.{Integral, AreSeedsFor}
use Rattle.sector_job.specs.Outcomes.{IsOutcome, AreTailsOf, IsWorked, tails_in}
use Rattle.sector_job.specs.OneOutcome.{one_outcome}
use Rattle.sector_job.specs.PieceLaws.{opened, lawful}
use Rattle.sector_job.specs.declared.outcome.Outcome.{Outcome}
use Rattle.sector_job.specs.declared.outcome.Outcome.TheVariants.{Worked, PairsSpent, DegreeOver, CandidatesOver}
use Rattle.system_text.specs.declared.value.System.{System}
use Rattle.neat_system.specs.System.{AreBooks, SectorWork, IsSectorWork, sectors_of, AreWorks, all_candidates, all_labels, block_of, relation_at, IsSystem, IsWorkedOut, IsFault}
use Rattle.target_rows.specs.Reductions.{declared_row, reductions_of}
use Rattle.neat_system.proofs.WorkSeeds.{seeds_of, same_seeds}

-- lists with equal keys are equal where an element is told by its key
by_keys : {X K : Type 0} (key : X → K) (P : X → Type 0) → ((x y : X) → key x ≡ key y → P x → P y → x ≡ y) → (xs ys : List X) → map key xs ≡ map key ys → AllByRecursion P xs → AllByRecursion P ys → xs ≡ ys
by_keys key P told [] [] same p q = refl
by_keys key P told [] (y ∷ ys) same p q = absurd (cc)
by_keys key P told (x ∷ xs) [] same p q = absurd (cc)
by_keys key P told (x ∷ xs) (y ∷ ys) same p q =
    let here : key x ≡ key y = cc in
    let others : map key xs ≡ map key ys = cc in
    let first : x ≡ y = told x y here p.0 q.0 in
    let rest : xs ≡ ys = by_keys key P told xs ys others p.1 q.1 in
    cc

abbrev pub worked_as : SectorWork → Outcome
worked_as work = Worked (record { sector = record { 0 = work.sector }; fields = work.fields }) work.candidates work.tails

abbrev fields_in : Outcome → List StrippedField
fields_in (Worked generators candidates tails) = generators.fields
fields_in PairsSpent = []
fields_in DegreeOver = []
fields_in CandidatesOver = []

abbrev candidates_in : Outcome → List IntegralSum
candidates_in (Worked generators candidates tails) = candidates
candidates_in PairsSpent = []
candidates_in DegreeOver = []
candidates_in CandidatesOver = []

abbrev pub IsUnworked : Outcome → Type 0
IsUnworked (Worked generators candidates tails) = ⊥
IsUnworked PairsSpent = Unit {0}
IsUnworked DegreeOver = Unit {0}
IsUnworked CandidatesOver = Unit {0}

-- the family of these values
unfoldable pub family_with : (family : FamilyData) → DataWithin family → Family
family_with family within = record {
  name = family.name;
  n = family.n;
  gamma = family.gamma;
  baikov = family.baikov;
  targets = family.targets;
  zero = family.zero;
  bounds = family.bounds;
  caps = family.caps;
  symmetries = family.symmetries;
  budget = family.budget;
  probe = family.probe;
  limits = within;
}

module _ (family : FamilyData) (within : DataWithin family) where
  pub one_books : (first second : List Integral) → AreBooks family first → AreBooks family second → first ≡ second
  unfolding family_with
  one_books first second one two =
      one_family (AreTailsOf family) family.n (lawful (family_with family within)) _ (opened (family_with family within)) first second one two

  module _ (books : List Integral) where
    one_work : (first second : SectorWork) → first.sector ≡ second.sector → IsSectorWork family books first → IsSectorWork family books second → first ≡ second
    one_work first second same one two =
        let other : IsOutcome family first.sector (book first.sector books) (worked_as second) =
        (sym same, subst (λ s. IsWorked family s (book s books) second.fields second.candidates second.tails) (sym same) two.worked)
        in
        let outcomes : worked_as first ≡ worked_as second = one_outcome family within first.sector (book first.sector books) (worked_as first) (worked_as second) (refl, one.worked) other in
        let seeds : first.seeds ≡ second.seeds =
        same_seeds family first.sector (book first.sector books) first.seeds second.seeds
        (seeds_of family (book first.sector books) first one)
        (subst (λ s. AreSeedsFor family s (book s books) second.seeds) (sym same) (seeds_of family (book second.sector books) second two))
        in
        λ i. record { sector = same i; fields = fields_in (outcomes i); seeds = seeds i; candidates = candidates_in (outcomes i); tails = tails_in (outcomes i) }

    pub one_works : (first second : List SectorWork) → AreWorks family books first → AreWorks family books second → first ≡ second
    one_works first second one two =
        let sectors : sectors_of first ≡ sectors_of second =
        same_members sector_cmp sector_cmp_total (sectors_of first) (sectors_of second) one.ordered two.ordered
        (λ sector inside. (two.reached sector).1 ((one.reached sector).0 inside)) (λ sector inside. (one.reached sector).1 ((two.reached sector).0 inside))
        in
        by_keys (λ work. work.sector) (IsSectorWork family books) one_work first second sectors (recursion_from_All _ first one.each) (recursion_from_All _ second two.each)

    -- a sector that is worked has no other outcome
    pub worked_alone : (sector : ℕ) (outcome : Outcome) → IsOutcome family sector (book sector books) outcome → IsUnworked outcome → IsWorkedOut family books sector → ⊥
    worked_alone sector outcome is not out =
        let other : IsOutcome family sector (book sector books) (worked_as out.work) =
        (out.of_sector, subst (λ s. IsWorked family s (book s books) out.work.fields out.work.candidates out.work.tails) out.of_sector out.is_work.worked)
        in
        subst IsUnworked (one_outcome family within sector (book sector books) outcome (worked_as out.work) is other) not

    -- a reached sector of worked ones is worked
    worked_out : (works : List SectorWork) → AreWorks family books works → (sector : ℕ) → IsReached sector books → IsWorkedOut family books sector
    worked_out works are sector reached =
        let found = from_map (λ (work : SectorWork). work.sector) works sector ((are.reached sector).1 reached) in
        record { work = found.0; of_sector = found.1.1; is_work = All-contains (IsSectorWork family books) works found.0 are.each found.1.0 }

  pub never_both : (system : System) (sector : ℕ) (outcome : Outcome) → IsFault family sector outcome → IsSystem family system → ⊥
  never_both system sector outcome fault is =
      let books : is.books ≡ fault.books = one_books is.books fault.books is.are_books fault.are_books in
      let works : AreWorks family fault.books is.works = subst (λ (bs : List Integral). AreWorks family bs is.works) books is.are_works in
      fault.unworked (worked_out fault.books is.works works sector fault.reached)

  -- neither fault is before the other
  not_before : (first second : ℕ) (outcome other : Outcome) (one : IsFault family first outcome) (two : IsFault family second other) → sector_cmp first second ≡ Less → ⊥
  not_before first second outcome other one two less =
      let books : one.books ≡ two.books = one_books one.books two.books one.are_books two.are_books in
      let reached : IsReached first two.books = subst (λ (bs : List Integral). IsReached first bs) books one.reached in
      one.unworked (subst (λ (bs : List Integral). IsWorkedOut family bs first) (sym books) (two.earlier first reached less))

  one_sector : (first second : ℕ) (outcome other : Outcome) → IsFault family first outcome → IsFault family second other → first ≡ second
  one_sector first second outcome other one two =
      elim (sector_cmp first second) as (λ o. sector_cmp first second ≡ o → first ≡ second) [
        | Less ↦ λ less. absurd (not_before first second outcome other one two less)
        | Equal ↦ λ tie. same_sectors first second tie
        | Greater ↦ λ greater. absurd (not_before second first other outcome two one (sector_cmp_total.antisymm second first ∙ ap ordering_reverse greater))
      ] refl

  pub one_fault : (first second : ℕ) (outcome other : Outcome) → IsFault family first outcome → IsFault family second other → (first ≡ second) × (outcome ≡ other)
  one_fault first second outcome other one two =
      let books : one.books ≡ two.books = one_books one.books two.books one.are_books two.are_books in
      let same : first ≡ second = one_sector first second outcome other one two in
      let is : IsOutcome family first (book first one.books) other = subst (λ s. IsOutcome family s (book s one.books) other) (sym same) (subst (λ (bs : List Integral). IsOutcome family second (book second bs) other) (sym books) two.is_outcome) in
      (same, one_outcome family within first (book first one.books) outcome other one.is_outcome is)

  pub one_system : (first second : System) → IsSystem family first → IsSystem family second → first ≡ second
  one_system first second one two =
      let books : one.books ≡ two.books = one_books one.books two.books one.are_books two.are_books in
      let works : one.works ≡ two.works = one_works two.books one.works two.works (subst (λ (bs : List Integral). AreWorks family bs one.works) books one.are_works) two.are_works in
      let targets = map (declared_row family) family.targets in
      let picked : IsPick integral_cmp (all_candidates two.works) targets one.written one.forms one.weights =
      subst (λ (ws : List SectorWork). IsPick integral_cmp (all_candidates ws) targets one.written one.forms one.weights) works one.pick
      in
      let same = IsPick-unique integral_cmp integral_cmp_total same_integrals (all_candidates two.works) targets one.written two.written one.forms two.forms one.weights two.weights picked two.pick in
      let name : first.name ≡ second.name = one.name ∙ sym two.name in
      let n : first.n ≡ second.n = one.n ∙ sym two.n in
      let sectors : first.sectors ≡ second.sectors = one.sectors ∙ ap (map block_of) works ∙ sym two.sectors in
      let relations : first.relations ≡ second.relations =
      one.relations ∙ (λ i. map (relation_at (all_labels (works i)) (all_candidates (works i))) (same.0 i)) ∙ sym two.relations
      in
      let reductions : first.reductions ≡ second.reductions = one.reductions ∙ (λ i. reductions_of (same.0 i) family.targets (same.1 i) (same.2 i)) ∙ sym two.reductions in
      λ i. record { name = name i; n = n i; sectors = sectors i; relations = relations i; reductions = reductions i }
