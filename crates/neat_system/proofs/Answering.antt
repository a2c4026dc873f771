-- What a right answer for a family says, both ways.
use Rattle.std.proofs.Common.{◌≡◌, ◌≢◌, Ok, Err, Some, refl, sym, ◌∙◌, ap, subst}
use Rattle.std.specs.Prelude.{◌↔◌, Option, Result, IfOk}
use Rattle.sector_lattice.specs.declared.sector.Sector.{Sector}
use Rattle.family.specs.Within.{DataWithin}
use Rattle.family.specs.FamilyData.{FamilyData}
use Rattle.sector_job.specs.declared.outcome.Outcome.{Outcome}
use Rattle.sector_job.specs.declared.outcome.Outcome.TheVariants as outcome
use Rattle.system_text.specs.declared.value.System.{System}
use Rattle.neat_system.specs.declared.fault.SystemFault.{SystemFault}
use Rattle.neat_system.specs.declared.fault.SystemFault.TheVariants.{PairsSpent, DegreeOver, CandidatesOver, NoMemory}
use Rattle.neat_system.specs.Answer.{fault_in, IsAnswer, IsAnswerFor}
use Rattle.neat_system.specs.System.{IsSystem, IsFault}
use Rattle.neat_system.proofs.OneSystem.{one_system, one_fault, never_both}

pub system_if : (family : FamilyData) (result : Result System SystemFault) → IsAnswer family result → IfOk result (IsSystem family)
system_if family (Ok system) is = is
system_if family (Err fault) is = tt

module _ (family : FamilyData) (within : DataWithin family) where
  pub complete_if : (result : Result System SystemFault) → IsAnswer family result → (system : System) → IsSystem family system → result ≢ Err NoMemory → result ≡ Ok system
  complete_if (Ok found) is system right some = ap Ok (one_system family within found system is right)
  complete_if (Err (PairsSpent sector)) is system right some = absurd (never_both family within system sector.0 outcome.PairsSpent is right)
  complete_if (Err (DegreeOver sector)) is system right some = absurd (never_both family within system sector.0 outcome.DegreeOver is right)
  complete_if (Err (CandidatesOver sector)) is system right some = absurd (never_both family within system sector.0 outcome.CandidatesOver is right)
  complete_if (Err NoMemory) is system right some = absurd (some refl)

  module _ (fault : SystemFault) (sector : Sector) (result : Outcome) (named : fault_in sector result ≡ Some fault) (right : IsFault family sector.0 result) where
    same_fault : (other : SystemFault) (place : Sector) (found : Outcome) → fault_in place found ≡ Some other → IsFault family place.0 found → ◌≡◌ {A = Result System SystemFault} (Err other) (Err fault)
    same_fault other place found has is =
        let one = one_fault family within place.0 sector.0 found result is right in
        let faults : ◌≡◌ {A = Option SystemFault} (Some other) (Some fault) = sym has ∙ (λ i. fault_in (record { 0 = one.0 i }) (one.1 i)) ∙ named in
        let same : other ≡ fault = cc in
        ap Err same

    pub exactly : (answer : Result System SystemFault) → IsAnswer family answer → answer ≢ Err NoMemory → answer ≡ Err fault
    exactly (Ok system) is some = absurd (never_both family within system sector.0 result right is)
    exactly (Err (PairsSpent place)) is some = same_fault (PairsSpent place) place outcome.PairsSpent refl is
    exactly (Err (DegreeOver place)) is some = same_fault (DegreeOver place) place outcome.DegreeOver refl is
    exactly (Err (CandidatesOver place)) is some = same_fault (CandidatesOver place) place outcome.CandidatesOver refl is
    exactly (Err NoMemory) is some = absurd (some refl)

  module _ (answer : Result System SystemFault) (is : IsAnswer family answer) where
    pub pairs_if : (sector : Sector) → answer ≢ Err NoMemory → (answer ≡ Err (PairsSpent sector)) ↔ IsFault family sector.0 outcome.PairsSpent
    pairs_if sector some = (λ e. subst (IsAnswer family) e is, λ right. exactly (PairsSpent sector) sector outcome.PairsSpent refl right answer is some)

    pub degree_if : (sector : Sector) → answer ≢ Err NoMemory → (answer ≡ Err (DegreeOver sector)) ↔ IsFault family sector.0 outcome.DegreeOver
    degree_if sector some = (λ e. subst (IsAnswer family) e is, λ right. exactly (DegreeOver sector) sector outcome.DegreeOver refl right answer is some)

    pub candidates_if : (sector : Sector) → answer ≢ Err NoMemory → (answer ≡ Err (CandidatesOver sector)) ↔ IsFault family sector.0 outcome.CandidatesOver
    candidates_if sector some = (λ e. subst (IsAnswer family) e is, λ right. exactly (CandidatesOver sector) sector outcome.CandidatesOver refl right answer is some)

    pub answer_for : IsAnswerFor family answer
    answer_for = record { system = system_if family answer is; complete = complete_if answer is; pairs = pairs_if; degree = degree_if; candidates = candidates_if }

-- want of memory says nothing
pub no_memory_answers : (family : FamilyData) → IsAnswerFor family (Err NoMemory)
no_memory_answers family = record {
  system = tt;
  complete = λ system is some. absurd (some refl);
  pairs = λ sector some. absurd (some refl);
  degree = λ sector some. absurd (some refl);
  candidates = λ sector some. absurd (some refl);
}
