-- A system has fewer than 2 ^ 31 relations.
use Rattle.std.proofs.Common.{◌≡◌, ◌*◌, ◌+◌, ◌^◌, ◌<◌, ◌≤◌, List, [], ◌∷◌, ◌++◌, length, ◌∙◌, ap, subst, inl, inr, arith}
use Rattle.std.specs.Prelude.{Contains}
use Rattle.std.specs.List.{AllByRecursion}
use Rattle.std.proofs.lemmas.List.{length-append, length-map}
use Rattle.std.proofs.lemmas.List.Elements.{recursion_from_All}
use Rattle.mono_order.specs.declared.limits.TheConstants.{VARIABLES}
use Rattle.sector_lattice.specs.Sectors.{integral_cmp, sector_of}
use Rattle.sector_lattice.specs.Orders.{sector_below}
use Rattle.family.specs.declared.limits.TheConstants.{CANDIDATE_LIMIT}
use Rattle.family.specs.FamilyData.{FamilyData}
use Rattle.family.specs.Within.{DataWithin}
use Rattle.relay_core.specs.Family.{book}
use Rattle.relay_core.proofs.Counts.{number_below}
use Rattle.relay_core.proofs.SectorBooks.{a_member}
use Rattle.sector_job.specs.Candidates.{Integral}
use Rattle.sector_job.specs.PieceLaws.{opened, lawful}
use Rattle.system_text.specs.declared.value.System.{System}
use Rattle.target_rows.proofs.PickedPlaces.{few_places}
use Rattle.neat_system.specs.System.{AreBooks, AreWorks, IsSectorWork, IsSystem, SectorWork, all_candidates, all_labels, relation_at, sectors_of}
use Rattle.neat_system.proofs.Lengths.{few_of_work, few_pieces}
use Rattle.neat_system.proofs.OneSystem.{family_with}

module _ (family : FamilyData) (within : DataWithin family) (books : List Integral) where
  book_powers : AreBooks family books → (t : Integral) → Contains books t → length t ≡ family.n
  unfolding family_with
  book_powers meets t inside = elim ((meets.members t).0 inside) [
    | inl target ↦ opened (family_with family within) t target
    | inr from ↦ (lawful (family_with family within)).powers from.sector (book from.sector books) from.tail.all from.tail.named t from.tail.among
  ]

  few_works : (works : List SectorWork) → AreBooks family books → AreWorks family books works → length works ≤ 2 ^ family.n
  few_works works meets are =
      subst (λ count. count ≤ 2 ^ family.n) (length-map works (λ work. work.sector))
      (number_below (sectors_of works) (2 ^ family.n) are.ordered
      (λ sector inside.
      let member = a_member sector books ((are.reached sector).0 inside) in
      let below : sector_of member.integral < 2 ^ length member.integral = sector_below member.integral in
      subst (λ s. s < 2 ^ family.n) member.same (subst (λ n. sector_of member.integral < 2 ^ n) (book_powers meets member.integral member.inside) below)))

  few_candidates : (works : List SectorWork) → AllByRecursion (IsSectorWork family books) works → length (all_candidates works) ≤ CANDIDATE_LIMIT * length works
  few_candidates [] each = omega arith
  few_candidates (work ∷ works) each =
      let here : length work.candidates ≤ family.budget.candidates = few_of_work family (book work.sector books) work each.0 in
      let budget : family.budget.candidates ≤ CANDIDATE_LIMIT = within.budget_within.candidates in
      let rest : length (all_candidates works) ≤ CANDIDATE_LIMIT * length works = few_candidates works each.1 in
      let joined : length (work.candidates ++ all_candidates works) ≡ length work.candidates + length (all_candidates works) = length-append work.candidates (all_candidates works) in
      omega (arith, here, budget, rest, joined)

pub few_relations : (family : FamilyData) (system : System) → DataWithin family → IsSystem family system → length system.relations < 2 ^ 31
few_relations family system within is =
    let candidates = all_candidates is.works in
    let listed : length system.relations ≡ length is.written = ap length is.relations ∙ length-map is.written (relation_at (all_labels is.works) candidates) in
    let written : length is.written ≤ length candidates = few_places integral_cmp candidates _ is.written is.forms is.weights is.pick in
    let few : length candidates ≤ CANDIDATE_LIMIT * length is.works = few_candidates family within is.books is.works (recursion_from_All _ is.works is.are_works.each) in
    let works : length is.works ≤ 2 ^ VARIABLES = few_pieces family within (length is.works) (few_works family within is.books is.works is.are_books is.are_works) in
    omega (arith, listed, written, few, works)
