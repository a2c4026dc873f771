-- The works and the fault of a closed relay.
use Rattle.std.proofs.Common.{◌≡◌, ℕ, ◌<◌, List, [], ◌∷◌, true, length, get_or, inl, inr, None, Some, Err, refl, sym, ◌∙◌, ap, subst, arith}
use Rattle.std.specs.Prelude.{Contains, All, map}
use Rattle.std.specs.List.{AllByRecursion, AllZip}
use Rattle.std.specs.List.Sorted.{IsStrictlySortedBy}
use Rattle.std.specs.Cmp.{tied_itself}
use Rattle.std.specs.Ordering.{ordering_reverse}
use Rattle.std.specs.declared.cmp.Ordering.TheVariants.{Less, Equal, Greater}
use Rattle.std.proofs.lemmas.Bool.{cases_lt}
use Rattle.std.proofs.lemmas.List.{length-map, get_or-map}
use Rattle.std.proofs.lemmas.List.Elements.{recursion_from_All, All-from_recursion, All-contains, Contains-get_or}
use Rattle.std.proofs.lemmas.Map.Keys.{Less-from_sorted}
use Rattle.sector_lattice.specs.Sectors.{integral_cmp, sector_cmp}
use Rattle.sector_lattice.specs.Orders.{sector_cmp_total}
use Rattle.sector_lattice.specs.declared.sector.Sector.{Sector}
use Rattle.sparse_rows.specs.Rows.{IntegralSum}
use Rattle.family.specs.Within.{DataWithin}
use Rattle.family.specs.FamilyData.{FamilyData}
use Rattle.ibp_algebra.specs.FormalSum.{map_keys}
use Rattle.relation_pick.specs.Bases.{place_at}
use Rattle.relation_pick.specs.Picking.{IsPick, rows_at}
use Rattle.system_text.specs.declared.value.System.{System}
use Rattle.family.specs.FamilyView.{family_view}
use Rattle.family.specs.declared.family.Family.{Family}
use Rattle.relay_core.specs.Family.{book, IsReached, MeetsEquation}
use Rattle.relay_core.specs.Relay.{AllDone}
use Rattle.relay_core.specs.State.{Relay}
use Rattle.family.proofs.SameFamily.{same_family, families_decide}
use Rattle.ibp_base.proofs.Members.{from_map}
use Rattle.sector_job.specs.Candidates.{Integral}
use Rattle.sector_job.specs.Outcomes.{IsOutcome}
use Rattle.sector_job.specs.Results.{ResultValue, IsResult, opening_of, tails_of_plan}
use Rattle.sector_job.specs.declared.outcome.Outcome.{Outcome}
use Rattle.sector_job.specs.declared.outcome.Outcome.TheVariants as outcome
use Rattle.neat_system.specs.declared.fault.SystemFault.{SystemFault}
use Rattle.neat_system.specs.declared.fault.SystemFault.TheVariants.{PairsSpent, DegreeOver, CandidatesOver}
use Rattle.neat_system.specs.declared.gathering.Gathered.{Gathered}
use Rattle.neat_system.specs.Answer.{fault_in, IsAnswer}
use Rattle.target_rows.specs.Reductions.{declared_row}
use Rattle.neat_system.proofs.OneSystem.{IsUnworked, worked_alone}
use Rattle.neat_system.proofs.MovedPicks.{moved_pick}
use Rattle.neat_system.specs.Gathering.{IsPieceOf, IsWorkedPiece, IsWorkOf, IsOwnWork, IsFirstFault, Gathers, Writes}
use Rattle.neat_system.specs.System.{AreBooks, SectorWork, IsWorkFor, IsSectorWork, sectors_of, AreWorks, all_candidates, all_labels, relation_at, IsSystem, IsWorkedOut, IsFault}

abbrev pub pieces_sectors : List ResultValue → List ℕ
pieces_sectors pieces = map (λ piece. piece.sector.0) pieces

-- what is known of a closed relay of this family
pub record IsClosedWith (family : FamilyData) (books : List Integral) (pieces : List ResultValue) : Type 0 where
  pub are_books : AreBooks family books
  pub ordered : IsStrictlySortedBy sector_cmp (pieces_sectors pieces)
  pub all_done : (sector : ℕ) → IsReached sector books → Contains (pieces_sectors pieces) sector
  pub reached : All (λ piece. IsReached piece.sector.0 books) pieces
  pub plans : All (IsPieceOf family) pieces
  pub targets : All (λ piece. piece.targets ≡ book piece.sector.0 books) pieces

pub closed_with : (state : Relay Family ResultValue) (pieces : List ResultValue) → MeetsEquation (tails_of_plan state.plan) (opening_of state.plan).targets state.progress.books → AllDone state.progress
    → state.progress.done ≡ pieces_sectors pieces → IsStrictlySortedBy sector_cmp state.progress.done → All (λ (piece : ResultValue). IsReached piece.sector.0 state.progress.books) pieces
    → All (λ (piece : ResultValue). same_family piece.plan state.plan ≡ true) pieces → All (λ (piece : ResultValue). piece.targets ≡ book piece.sector.0 state.progress.books) pieces
    → IsClosedWith (family_view state.plan) state.progress.books pieces
closed_with state pieces meets closed done ordered reached plans targets = record {
  are_books = meets;
  ordered = subst (λ (ss : List ℕ). IsStrictlySortedBy sector_cmp ss) done ordered;
  all_done = λ sector is. subst (λ (ss : List ℕ). Contains ss sector) done (closed sector is);
  reached = reached;
  plans = λ k d inside. (families_decide (get_or pieces k d).plan state.plan).0 (plans k d inside);
  targets = targets;
}

-- the sectors of the works are those of the pieces
sectors_are : (family : FamilyData) (pieces : List ResultValue) (works : List SectorWork) → AllZip (IsWorkOf family) pieces works → sectors_of works ≡ pieces_sectors pieces
sectors_are family [] [] all = refl
sectors_are family [] (work ∷ works) all = absurd all
sectors_are family (piece ∷ pieces) [] all = absurd all
sectors_are family (piece ∷ pieces) (work ∷ works) all = λ i. all.0.of_sector i ∷ sectors_are family pieces works all.1 i

-- a work for the piece's targets is one for its sector's book
for_book : (family : FamilyData) (books : List Integral) (piece : ResultValue) (work : SectorWork) → piece.targets ≡ book piece.sector.0 books → IsWorkOf family piece work → IsSectorWork family books work
for_book family books piece work targets is = subst (λ (ts : List Integral). IsWorkFor family ts work) (targets ∙ ap (λ s. book s books) (sym is.of_sector)) is.is_work

each_is_work : (family : FamilyData) (books : List Integral) (pieces : List ResultValue) (works : List SectorWork) → AllByRecursion (λ piece. piece.targets ≡ book piece.sector.0 books) pieces
    → AllZip (IsWorkOf family) pieces works → AllByRecursion (IsSectorWork family books) works
each_is_work family books [] [] targets all = tt
each_is_work family books [] (work ∷ works) targets all = absurd all
each_is_work family books (piece ∷ pieces) [] targets all = absurd all
each_is_work family books (piece ∷ pieces) (work ∷ works) targets all = (for_book family books piece work targets.0 all.0, each_is_work family books pieces works targets.1 all.1)

-- what a piece of the family comes to is a work of the family
own_works : (family : FamilyData) (pieces : List ResultValue) (works : List SectorWork) → AllByRecursion (IsPieceOf family) pieces → AllZip IsOwnWork pieces works → AllZip (IsWorkOf family) pieces works
own_works family [] [] plans all = tt
own_works family [] (work ∷ works) plans all = absurd all
own_works family (piece ∷ pieces) [] plans all = absurd all
own_works family (piece ∷ pieces) (work ∷ works) plans all = (subst (λ (f : FamilyData). IsWorkOf f piece work) plans.0 all.0, own_works family pieces works plans.1 all.1)

module _ (family : FamilyData) (books : List Integral) (pieces : List ResultValue) (closed : IsClosedWith family books pieces) where
  done_is_reached : (sector : ℕ) → Contains (pieces_sectors pieces) sector → IsReached sector books
  done_is_reached sector inside =
      let found = from_map (λ (piece : ResultValue). piece.sector.0) pieces sector inside in
      subst (λ s. IsReached s books) found.1.1 (All-contains (λ (piece : ResultValue). IsReached piece.sector.0 books) pieces found.0 closed.reached found.1.0)

  pub are_works : (works : List SectorWork) → AllZip (IsWorkOf family) pieces works → AreWorks family books works
  are_works works all =
      let same : sectors_of works ≡ pieces_sectors pieces = sectors_are family pieces works all in
      record {
        ordered = subst (λ (ss : List ℕ). IsStrictlySortedBy sector_cmp ss) (sym same) closed.ordered;
        reached = λ sector. (
          λ inside. done_is_reached sector (subst (λ (ss : List ℕ). Contains ss sector) same inside),
          λ reached. subst (λ (ss : List ℕ). Contains ss sector) (sym same) (closed.all_done sector reached),
        );
        each = All-from_recursion (IsSectorWork family books) works (each_is_work family books pieces works (recursion_from_All _ pieces closed.targets) all);
      }

  -- what comes of a piece is the outcome of its sector for the sector's book
  outcome_is : (piece : ResultValue) → Contains pieces piece → IsResult piece → IsOutcome family piece.sector.0 (book piece.sector.0 books) piece.outcome
  outcome_is piece inside is =
      subst (λ (ts : List Integral). IsOutcome family piece.sector.0 ts piece.outcome) (All-contains (λ (p : ResultValue). p.targets ≡ book p.sector.0 books) pieces piece closed.targets inside)
      (subst (λ (f : FamilyData). IsOutcome f piece.sector.0 piece.targets piece.outcome) (All-contains (IsPieceOf family) pieces piece closed.plans inside) is.is_outcome)

  worked_out_as : (sector : ℕ) (targets : List Integral) (result : Outcome) (piece_sector : Sector) → targets ≡ book sector books → fault_in piece_sector result ≡ None → IsOutcome family sector targets result → IsWorkedOut family books sector
  worked_out_as sector targets (outcome.Worked generators candidates tails) at same none is = record {
    work = record { sector = sector; fields = generators.fields; seeds = is.1.seeds; candidates = candidates; tails = tails };
    of_sector = refl;
    is_work = subst (λ (ts : List Integral). IsWorkFor family ts (record { sector = sector; fields = generators.fields; seeds = is.1.seeds; candidates = candidates; tails = tails })) same
        (record { worked = is.1; with_seeds = refl });
  }
  worked_out_as sector targets outcome.PairsSpent at same none is = absurd (cc)
  worked_out_as sector targets outcome.DegreeOver at same none is = absurd (cc)
  worked_out_as sector targets outcome.CandidatesOver at same none is = absurd (cc)

  worked_out : (piece : ResultValue) → Contains pieces piece → IsWorkedPiece piece → IsWorkedOut family books piece.sector.0
  worked_out piece inside is = worked_out_as piece.sector.0 (book piece.sector.0 books) piece.outcome piece.sector refl is.none (outcome_is piece inside is.is_result)

  -- what comes before a piece in sector order stands before it
  stands_before : (i k d : ℕ) → k < length (pieces_sectors pieces) → sector_cmp (get_or (pieces_sectors pieces) k d) (get_or (pieces_sectors pieces) i d) ≡ Less → k < i
  stands_before i k d inside less =
      elim (cases_lt k i) [
        | inl below ↦ below
        | inr above ↦ elim (cases_lt i k) [
          | inl over ↦ absurd (
              let rises : sector_cmp (get_or (pieces_sectors pieces) i d) (get_or (pieces_sectors pieces) k d) ≡ Less = Less-from_sorted sector_cmp (pieces_sectors pieces) i k d closed.ordered over inside in
              let back : sector_cmp (get_or (pieces_sectors pieces) k d) (get_or (pieces_sectors pieces) i d) ≡ Greater = sector_cmp_total.antisymm _ _ ∙ ap ordering_reverse rises in
              let clash : Less ≡ Greater = sym less ∙ back in
              cc)
          | inr under ↦ absurd (
              let same : k ≡ i = omega arith in
              let tie : sector_cmp (get_or (pieces_sectors pieces) k d) (get_or (pieces_sectors pieces) i d) ≡ Equal = subst (λ j. sector_cmp (get_or (pieces_sectors pieces) k d) (get_or (pieces_sectors pieces) j d) ≡ Equal) same (tied_itself sector_cmp_total _) in
              let clash : Less ≡ Equal = sym less ∙ tie in
              cc)
        ]
      ]

  module _ (within : DataWithin family) (fault : SystemFault) (first : IsFirstFault pieces fault) where
    inside_pieces : Contains pieces first.piece
    inside_pieces = (first.place, first.within, sym first.is)

    earlier : (other : ℕ) → IsReached other books → sector_cmp other first.piece.sector.0 ≡ Less → IsWorkedOut family books other
    earlier other reached less =
        let found = closed.all_done other reached in
        let there : found.0 < length pieces = subst (λ n. found.0 < n) (length-map pieces (λ (p : ResultValue). p.sector.0)) found.1 in
        let before : ResultValue = get_or pieces found.0 first.piece in
        let own : get_or (pieces_sectors pieces) first.place other ≡ first.piece.sector.0 =
        get_or-map (λ (p : ResultValue). p.sector.0) pieces first.place first.piece other first.within ∙ ap (λ (p : ResultValue). p.sector.0) (sym first.is)
        in
        let ordered : sector_cmp (get_or (pieces_sectors pieces) found.0 other) (get_or (pieces_sectors pieces) first.place other) ≡ Less =
        (λ i. sector_cmp (found.2 i) (own i)) ∙ less
        in
        let sooner : found.0 < first.place = stands_before first.place found.0 other found.1 ordered in
        let sector : before.sector.0 ≡ other = sym (get_or-map (λ (p : ResultValue). p.sector.0) pieces found.0 first.piece other there) ∙ found.2 in
        subst (λ s. IsWorkedOut family books s) sector (worked_out before (Contains-get_or pieces found.0 first.piece there) (first.earlier found.0 first.piece sooner))

    unworked : (sector : Sector) (result : Outcome) → fault_in sector result ≡ Some fault → IsUnworked result
    unworked sector (outcome.Worked generators candidates tails) has = absurd (cc)
    unworked sector outcome.PairsSpent has = tt
    unworked sector outcome.DegreeOver has = tt
    unworked sector outcome.CandidatesOver has = tt

    pub is_fault : IsFault family first.piece.sector.0 first.piece.outcome
    is_fault =
        let is = outcome_is first.piece inside_pieces first.is_result in
        record {
          books = books;
          are_books = closed.are_books;
          reached = All-contains (λ (p : ResultValue). IsReached p.sector.0 books) pieces first.piece closed.reached inside_pieces;
          is_outcome = is;
          unworked = worked_alone family within books first.piece.sector.0 first.piece.outcome is (unworked first.piece.sector first.piece.outcome first.has);
          earlier = earlier;
        }

    told : (sector : Sector) (result : Outcome) → fault_in sector result ≡ Some fault → IsFault family sector.0 result → IsAnswer family (Err fault)
    told sector (outcome.Worked generators candidates tails) has is = absurd (cc)
    told sector outcome.PairsSpent has is = let e : PairsSpent sector ≡ fault = cc in subst (λ (f : SystemFault). IsAnswer family (Err f)) e is
    told sector outcome.DegreeOver has is = let e : DegreeOver sector ≡ fault = cc in subst (λ (f : SystemFault). IsAnswer family (Err f)) e is
    told sector outcome.CandidatesOver has is = let e : CandidatesOver sector ≡ fault = cc in subst (λ (f : SystemFault). IsAnswer family (Err f)) e is

    pub fault_answers : IsAnswer family (Err fault)
    fault_answers = told first.piece.sector first.piece.outcome first.has is_fault

  pub system_is : (gathered : Gathered) (system : System) → Gathers pieces gathered → Writes family gathered system → IsSystem family system
  system_is gathered system gathers writes =
      let all = all_candidates gathers.works in
      let here : IsPick integral_cmp (rows_at all gathers.places) (map (declared_row family) family.targets) writes.written writes.forms writes.weights =
      subst (λ (cs : List IntegralSum). IsPick integral_cmp cs (map (declared_row family) family.targets) writes.written writes.forms writes.weights) gathers.candidates writes.pick
      in
      let moved = moved_pick family all gathers.places gathers.covers writes.written writes.forms writes.weights here in
      record {
        books = books;
        are_books = closed.are_books;
        works = gathers.works;
        are_works = are_works gathers.works (own_works family pieces gathers.works (recursion_from_All (IsPieceOf family) pieces closed.plans) gathers.are_works);
        written = map (place_at gathers.places) writes.written;
        forms = writes.forms;
        weights = map (map_keys (place_at gathers.places)) writes.weights;
        pick = moved.pick;
        name = writes.name;
        n = writes.n;
        sectors = writes.sectors ∙ gathers.blocks;
        relations = writes.relations ∙ (λ i. map (relation_at (gathers.labels i) (gathers.candidates i)) writes.written) ∙ moved.relations (all_labels gathers.works);
        reductions = writes.reductions ∙ moved.reductions;
      }
