-- A family within the limits of a file has a system or a fault.
use Rattle.std.proofs.Common.{◌≡◌, ◌⊎◌, inl, inr, ℕ, zero, suc, ◌<◌, Bool, true, false, true≢false, List, [], ◌∷◌, map, length, get_or, refl, sym, ◌∙◌, subst, arith}
use Rattle.std.specs.Prelude.{Contains, not, Option, None, Some}
use Rattle.std.specs.List.{AllByRecursion, AllZip}
use Rattle.std.specs.List.Sorted.{IsStrictlySortedBy}
use Rattle.std.proofs.lemmas.List.Elements.{All-weaker, All-contains_itself, All-from_recursion}
use Rattle.std.proofs.lemmas.List.Kept.{IsStrictlySortedBy-filter}
use Rattle.ibp_base.proofs.Ascending.{sorted_none}
use Rattle.ibp_base.proofs.Members.{in_none, in_map, from_map, from_filter, by_recursion_each}
use Rattle.ibp_base.proofs.Tests.{not_false}
use Rattle.ibp_base.proofs.Zips.{some_zip}
use Rattle.sector_lattice.specs.Sectors.{sector_of, integral_cmp, sector_cmp}
use Rattle.sector_lattice.specs.Orders.{integral_cmp_total, same_integrals, sector_cmp_total, same_sectors}
use Rattle.sector_lattice.specs.declared.sector.Sector.{Sector}
use Rattle.sparse_rows.specs.Rows.{is_zero_integral}
use Rattle.family.specs.Conditions.{is_zero_sector}
use Rattle.family.specs.FamilyData.{FamilyData}
use Rattle.family.specs.Within.{DataWithin}
use Rattle.relation_pick.proofs.SomePick.{some_pick}
use Rattle.relay_core.specs.Family.{book, IsReached, AreLawful}
use Rattle.relay_core.proofs.SectorBooks.{from_book, reached_by, a_member}
use Rattle.relay_core.proofs.SomeFamily.{IsBook, some_family}
use Rattle.relay_core.proofs.Told.{all_taken_in}
use Rattle.sector_job.specs.Candidates.{Integral}
use Rattle.sector_job.specs.Outcomes.{FitsTargets, IsOutcome, AreTailsOf, tails_in, opening_targets}
use Rattle.sector_job.specs.PieceLaws.{opened, lawful}
use Rattle.sector_job.specs.Results.{ResultValue, IsResult}
use Rattle.sector_job.specs.declared.outcome.Outcome.{Outcome}
use Rattle.sector_job.specs.declared.outcome.Outcome.TheVariants as outcome
use Rattle.sector_job.proofs.SomeOutcome.{some_outcome}
use Rattle.sector_job.proofs.TailsNotZero.{tails_not_zero}
use Rattle.system_text.specs.declared.value.System.{System}
use Rattle.neat_system.specs.declared.fault.SystemFault.{SystemFault}
use Rattle.neat_system.specs.Answer.{fault_in, HasFault}
use Rattle.neat_system.specs.Gathering.{IsPieceOf, IsWorkedPiece, IsWorkOf, IsFirstFault, fault_of}
use Rattle.target_rows.specs.Reductions.{declared_row, reductions_of}
use Rattle.neat_system.specs.System.{AreBooks, SectorWork, IsWorkFor, all_candidates, all_labels, block_of, relation_at, IsSystem, IsFault}
use Rattle.neat_system.proofs.ClosedRelay.{pieces_sectors, IsClosedWith, are_works, is_fault}
use Rattle.neat_system.proofs.OneSystem.{family_with, IsUnworked}

-- ---- the first fault, or none

earlier_more : (piece : ResultValue) (pieces : List ResultValue) (place : ℕ) → IsWorkedPiece piece → ((k : ℕ) (d : ResultValue) → k < place → IsWorkedPiece (get_or pieces k d))
    → (k : ℕ) (d : ResultValue) → k < suc place → IsWorkedPiece (get_or (piece ∷ pieces) k d)
earlier_more piece pieces place here h zero d low = here
earlier_more piece pieces place here h (suc k) d low = h k d (omega arith)

-- by the first piece and what comes of the others
with_first : (piece : ResultValue) (pieces : List ResultValue) → IsResult piece → ((fault : SystemFault) × IsFirstFault pieces fault) ⊎ AllByRecursion IsWorkedPiece pieces → (o : Option SystemFault) → fault_of piece ≡ o
    → ((fault : SystemFault) × IsFirstFault (piece ∷ pieces) fault) ⊎ AllByRecursion IsWorkedPiece (piece ∷ pieces)
with_first piece pieces is rest (Some fault) e = inl (fault, record { place = 0; piece = piece; within = omega arith; is = refl; is_result = is; has = e; earlier = λ k d low. absurd (omega arith) })
with_first piece pieces is (inl f) None e = inl (
  f.0,
  record {
    place = suc f.1.place;
    piece = f.1.piece;
    within = (let low : f.1.place < length pieces = f.1.within in omega (arith, low));
    is = f.1.is;
    is_result = f.1.is_result;
    has = f.1.has;
    earlier = earlier_more piece pieces f.1.place (record { is_result = is; none = e }) f.1.earlier;
  },
)
with_first piece pieces is (inr all) None e = inr (record { is_result = is; none = e }, all)

first_or_all : (pieces : List ResultValue) → AllByRecursion IsResult pieces → ((fault : SystemFault) × IsFirstFault pieces fault) ⊎ AllByRecursion IsWorkedPiece pieces
first_or_all [] h = inr tt
first_or_all (piece ∷ pieces) h = with_first piece pieces h.0 (first_or_all pieces h.1) (fault_of piece) refl

-- ---- what a worked piece comes to

work_by : (family : FamilyData) (sector : Sector) (targets : List Integral) (result : Outcome) → fault_in sector result ≡ None → IsOutcome family sector.0 targets result
    → (work : SectorWork) × (work.sector ≡ sector.0) × IsWorkFor family targets work
work_by family sector targets (outcome.Worked generators candidates tails) none is = (
  record { sector = sector.0; fields = generators.fields; seeds = is.1.seeds; candidates = candidates; tails = tails },
  refl,
  record { worked = is.1; with_seeds = refl },
)
work_by family sector targets outcome.PairsSpent none is = absurd (cc)
work_by family sector targets outcome.DegreeOver none is = absurd (cc)
work_by family sector targets outcome.CandidatesOver none is = absurd (cc)

work_of : (family : FamilyData) (piece : ResultValue) → IsPieceOf family piece → IsWorkedPiece piece → (work : SectorWork) × IsWorkOf family piece work
work_of family piece plan worked =
    let is : IsOutcome family piece.sector.0 piece.targets piece.outcome = subst (λ (f : FamilyData). IsOutcome f piece.sector.0 piece.targets piece.outcome) plan worked.is_result.is_outcome in
    let found = work_by family piece.sector piece.targets piece.outcome worked.none is in
    (found.0, record { of_sector = found.1; is_work = found.2 })

fault_unworked : (sector : Sector) (result : Outcome) (fault : SystemFault) → fault_in sector result ≡ Some fault → IsUnworked result
fault_unworked sector (outcome.Worked generators candidates tails) fault has = absurd (cc)
fault_unworked sector outcome.PairsSpent fault has = tt
fault_unworked sector outcome.DegreeOver fault has = tt
fault_unworked sector outcome.CandidatesOver fault has = tt

module _ (family : FamilyData) (within : DataWithin family) where
  -- ---- the books

  is_lawful : AreLawful (AreTailsOf family) family.n
  unfolding family_with
  is_lawful = lawful (family_with family within)

  is_opened : (t : Integral) → Contains (opening_targets family) t → length t ≡ family.n
  unfolding family_with
  is_opened = opened (family_with family within)

  fits_of : (sector : ℕ) (found : List Integral) → IsBook family.n sector found → is_zero_sector family.zero sector ≡ false → FitsTargets family sector found
  fits_of sector found is e = record {
    some = is.some;
    ascend = is.ascends;
    of_sector = is.of_sector;
    powers = All-weaker (Contains found) (λ t. length t ≡ family.n) is.powers found (All-contains_itself found);
    not_zero = e;
  }

  decided : (sector : ℕ) (found : List Integral) → IsBook family.n sector found → ((all : List Integral) × AreTailsOf family sector found all) ⊎ ((all : List Integral) → ¬ AreTailsOf family sector found all)
  decided sector found is = by (is_zero_sector family.zero sector) refl
    where
      by : (b : Bool) → is_zero_sector family.zero sector ≡ b → ((all : List Integral) × AreTailsOf family sector found all) ⊎ ((all : List Integral) → ¬ AreTailsOf family sector found all)
      by true e = inr (λ all h. true≢false (sym e ∙ h.fits.not_zero))
      by false e =
          let fits = fits_of sector found is e in
          let result = some_outcome family within sector found fits in
          inl (tails_in result.0, record { fits = fits; outcome = result.0; is_outcome = result.1; are = refl })

  module _ (books : List Integral) (meets : AreBooks family books) (powers : (t : Integral) → Contains books t → length t ≡ family.n) where
    not_zero_integral : (t : Integral) → Contains books t → is_zero_integral family.zero t ≡ false
    not_zero_integral t inside =
        elim ((meets.members t).0 inside) [
          | inl target ↦ not_false _ (from_filter (λ u. not (is_zero_integral family.zero u)) family.targets t target).1
          | inr from ↦
              let tails = from.tail.named in
              tails_not_zero family from.sector (book from.sector books) tails.outcome tails.fits tails.is_outcome t (subst (λ (xs : List Integral). Contains xs t) tails.are from.tail.among)
        ]

    reached_not_zero : (sector : ℕ) → IsReached sector books → is_zero_sector family.zero sector ≡ false
    reached_not_zero sector reached =
        let m = a_member sector books reached in
        subst (λ s. is_zero_sector family.zero s ≡ false) m.same (not_zero_integral m.integral m.inside)

    is_book : (sector : ℕ) → IsReached sector books → IsBook family.n sector (book sector books)
    is_book sector reached = record {
      some = reached;
      ascends = IsStrictlySortedBy-filter integral_cmp _ books meets.ascends;
      of_sector = λ t inside. (from_book sector books t inside).1;
      powers = λ t inside. powers t (from_book sector books t inside).0;
    }

    -- ---- the pieces of the reached sectors

    record IsPieceAt (sector : ℕ) (piece : ResultValue) : Type 0 where
      of_sector : piece.sector.0 ≡ sector
      reached : IsReached piece.sector.0 books
      plan : IsPieceOf family piece
      targets : piece.targets ≡ book piece.sector.0 books
      is_result : IsResult piece

    piece_at : (sector : ℕ) → IsReached sector books → (piece : ResultValue) × IsPieceAt sector piece
    unfolding family_with
    piece_at sector reached =
        let fits = fits_of sector (book sector books) (is_book sector reached) (reached_not_zero sector reached) in
        let found = some_outcome family within sector (book sector books) fits in (
          record { plan = family_with family within; sector = record { 0 = sector }; targets = book sector books; outcome = found.0 },
          record { of_sector = refl; reached = reached; plan = refl; targets = refl; is_result = record { fits = fits; is_outcome = found.1 } },
        )

    -- the reached sectors in their order
    record AreReached (sectors : List ℕ) : Type 0 where
      ordered : IsStrictlySortedBy sector_cmp sectors
      reached : (sector : ℕ) → Contains sectors sector → IsReached sector books
      all : (sector : ℕ) → IsReached sector books → Contains sectors sector

    reached_sectors : (sectors : List ℕ) × AreReached sectors
    reached_sectors =
        let all = all_taken_in sector_cmp sector_cmp_total same_sectors (map sector_of books) [] (sorted_none sector_cmp) in (
          all.0,
          record {
            ordered = all.1.ascends;
            reached = λ sector inside. elim ((all.1.members sector).0 inside) [
              | inl none ↦ absurd (in_none sector none)
              | inr is ↦ let found = from_map sector_of books sector is in reached_by sector books found.0 found.1.0 found.1.1
            ];
            all = λ sector reached.
                let m = a_member sector books reached in
                (all.1.members sector).1 (inr (subst (Contains (map sector_of books)) m.same (in_map sector_of books m.integral m.inside)));
          },
        )

    sectors_are : (sectors : List ℕ) (pieces : List ResultValue) → AllZip IsPieceAt sectors pieces → pieces_sectors pieces ≡ sectors
    sectors_are [] [] h = refl
    sectors_are [] (piece ∷ pieces) h = absurd h
    sectors_are (sector ∷ sectors) [] h = absurd h
    sectors_are (sector ∷ sectors) (piece ∷ pieces) h = λ i. h.0.of_sector i ∷ sectors_are sectors pieces h.1 i

    each_piece : (P : ResultValue → Type 0) → ((sector : ℕ) (piece : ResultValue) → IsPieceAt sector piece → P piece) → (sectors : List ℕ) (pieces : List ResultValue) → AllZip IsPieceAt sectors pieces → AllByRecursion P pieces
    each_piece P each [] [] h = tt
    each_piece P each [] (piece ∷ pieces) h = absurd h
    each_piece P each (sector ∷ sectors) [] h = absurd h
    each_piece P each (sector ∷ sectors) (piece ∷ pieces) h = (each sector piece h.0, each_piece P each sectors pieces h.1)

    module _ (sectors : List ℕ) (are : AreReached sectors) (pieces : List ResultValue) (zip : AllZip IsPieceAt sectors pieces) where
      all_plans : AllByRecursion (IsPieceOf family) pieces
      all_plans = each_piece (IsPieceOf family) (λ sector piece h. h.plan) sectors pieces zip

      closed : IsClosedWith family books pieces
      closed =
          let same : pieces_sectors pieces ≡ sectors = sectors_are sectors pieces zip in
          record {
            are_books = meets;
            ordered = subst (λ (ss : List ℕ). IsStrictlySortedBy sector_cmp ss) (sym same) are.ordered;
            all_done = λ sector reached. subst (λ (ss : List ℕ). Contains ss sector) (sym same) (are.all sector reached);
            reached = All-from_recursion (λ (piece : ResultValue). IsReached piece.sector.0 books) pieces (each_piece (λ piece. IsReached piece.sector.0 books) (λ sector piece h. h.reached) sectors pieces zip);
            plans = All-from_recursion (IsPieceOf family) pieces all_plans;
            targets = All-from_recursion (λ (piece : ResultValue). piece.targets ≡ book piece.sector.0 books) pieces (each_piece (λ piece. piece.targets ≡ book piece.sector.0 books) (λ sector piece h. h.targets) sectors pieces zip);
          }

      -- a system of worked pieces
      some_system : AllByRecursion IsWorkedPiece pieces → (system : System) × IsSystem family system
      some_system worked =
          let works = some_zip (IsWorkOf family) pieces (λ piece inside. work_of family piece (by_recursion_each (IsPieceOf family) pieces piece all_plans inside) (by_recursion_each IsWorkedPiece pieces piece worked inside)) in
          let pick = some_pick integral_cmp integral_cmp_total same_integrals (all_candidates works.0) (map (declared_row family) family.targets) in (
            record {
              name = family.name;
              n = family.n;
              sectors = map block_of works.0;
              relations = map (relation_at (all_labels works.0) (all_candidates works.0)) pick.0;
              reductions = reductions_of pick.0 family.targets pick.1 pick.2;
            },
            record {
              books = books;
              are_books = meets;
              works = works.0;
              are_works = are_works family books pieces closed works.0 works.1;
              written = pick.0;
              forms = pick.1;
              weights = pick.2;
              pick = pick.3;
              name = refl;
              n = refl;
              sectors = refl;
              relations = refl;
              reductions = refl;
            },
          )

      answered : ((system : System) × IsSystem family system) ⊎ ((sector : ℕ) × (result : Outcome) × IsUnworked result × IsFault family sector result)
      answered =
          elim (first_or_all pieces (each_piece IsResult (λ sector piece h. h.is_result) sectors pieces zip)) [
            | inl found ↦ inr (
              found.1.piece.sector.0,
              found.1.piece.outcome,
              fault_unworked found.1.piece.sector found.1.piece.outcome found.0 found.1.has,
              is_fault family books pieces closed within found.0 found.1,
            )
            | inr worked ↦ inl (some_system worked)
          ]

  pub some_answer : ((system : System) × IsSystem family system) ⊎ ((sector : ℕ) × (result : Outcome) × IsUnworked result × IsFault family sector result)
  some_answer =
      let books = some_family (AreTailsOf family) family.n is_lawful (opening_targets family) is_opened decided in
      let sectors = reached_sectors books.0 books.1 books.2 in
      let pieces = some_zip (IsPieceAt books.0 books.1 books.2) sectors.0 (λ sector inside. piece_at books.0 books.1 books.2 sector (sectors.1.reached sector inside)) in
      answered books.0 books.1 books.2 sectors.0 sectors.1 pieces.0 pieces.1

three_faults : (family : FamilyData) (sector : ℕ) (result : Outcome) → IsUnworked result → IsFault family sector result → HasFault family
three_faults family sector (outcome.Worked generators candidates tails) not is = absurd not
three_faults family sector outcome.PairsSpent not is = (sector, inl is)
three_faults family sector outcome.DegreeOver not is = (sector, inr (inl is))
three_faults family sector outcome.CandidatesOver not is = (sector, inr (inr is))

pub system_or_fault : (family : FamilyData) → DataWithin family → ((system : System) × IsSystem family system) ⊎ HasFault family
system_or_fault family within =
    elim (some_answer family within) [
      | inl system ↦ inl system
      | inr fault ↦ inr (three_faults family fault.0 fault.1 fault.2 fault.3)
    ]
