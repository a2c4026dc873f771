-- `cut` refuses a family in one way, and only where it has no cut family with a system.
use Rattle.std.proofs.Common.{◌≡◌, ◌≢◌, ℕ, Some, Result, Err, refl, sym, ap, subst, ◌∙◌}
use Rattle.std.proofs.lemmas.Option.{same_Some}
use Rattle.sector_lattice.specs.declared.sector.Sector.{Sector}
use Rattle.family.specs.Within.{DataWithin}
use Rattle.family.specs.FamilyData.{FamilyData}
use Rattle.sector_job.specs.declared.outcome.Outcome.{Outcome}
use Rattle.sector_job.specs.declared.outcome.Outcome.TheVariants as outcome
use Rattle.system_text.specs.declared.value.System.{System}
use Rattle.neat_system.specs.Answer.{IsAnswerFor}
use Rattle.neat_system.specs.System.{IsFault, IsSystem}
use Rattle.neat_system.specs.declared.fault.SystemFault.{SystemFault}
use Rattle.neat_system.specs.declared.fault.SystemFault.TheVariants as system
use Rattle.neat_system.proofs.OneSystem.{one_fault, one_system, never_both}
use Rattle.cut_family.specs.Cutting.{fault_of}
use Rattle.cut_family.specs.Lifting.{lifted_sector}
use Rattle.cut_family.specs.declared.fault.CutFault.{CutFault}
use Rattle.cut_family.proofs.OneCut.{one_cut, cut_within}
use Rattle.commands.specs.Answers.{IsAnswer}
use Rattle.commands.specs.Cut.{HasCutSystem, IsCutFault, IsCutOf, IsCutText, RefusesCut}
use Rattle.commands.specs.Refusals.{of_lifted_fault}
use Rattle.commands.specs.declared.status.Status.{Status}
use Rattle.commands.specs.declared.status.Status.TheVariants.{PairsSpent, DegreeOver, CandidatesOver, Cut}
use Rattle.commands.proofs.OfPlain.{same_sector}

within_cut : (family cut : FamilyData) (number : ℕ) → DataWithin family → IsCutOf family number cut → DataWithin cut
within_cut family cut number within is = cut_within number family cut is.sector within is.no_fault is.is_cut

same_cut : (family one other : FamilyData) (number : ℕ) → IsCutOf family number one → IsCutOf family number other → other ≡ one
same_cut family one other number first second = one_cut number family other one second.is_cut first.is_cut

pub one_cut_system : (family : FamilyData) (number : ℕ) → DataWithin family → (one other : HasCutSystem family number) → one.system ≡ other.system
one_cut_system family number within one other =
    let moved : IsSystem one.cut other.system = subst (λ (f : FamilyData). IsSystem f other.system) (same_cut family one.cut other.cut number one.is_cut other.is_cut) other.is_system in
    one_system one.cut (within_cut family one.cut number within one.is_cut) one.system other.system one.is_system moved

system_or_fault : (family : FamilyData) (number : ℕ) (sector : Sector) (o : Outcome) → DataWithin family → HasCutSystem family number → IsCutFault family number sector o → ⊥
system_or_fault family number sector o within met refused =
    let moved : IsFault met.cut refused.named.0 o = subst (λ (f : FamilyData). IsFault f refused.named.0 o) (same_cut family met.cut refused.cut number met.is_cut refused.is_cut) refused.fault in
    never_both met.cut (within_cut family met.cut number within met.is_cut) met.system refused.named.0 o moved met.is_system

one_cut_fault : (family : FamilyData) (number : ℕ) (s t : Sector) (o p : Outcome) → DataWithin family → IsCutFault family number s o → IsCutFault family number t p → (s ≡ t) × (o ≡ p)
one_cut_fault family number s t o p within one other =
    let moved : IsFault one.cut other.named.0 p = subst (λ (f : FamilyData). IsFault f other.named.0 p) (same_cut family one.cut other.cut number one.is_cut other.is_cut) other.fault in
    let both = one_fault one.cut (within_cut family one.cut number within one.is_cut) one.named.0 other.named.0 o p one.fault moved in
    (one.lifted ∙ ap (λ (u : Sector). lifted_sector family.n number u) (same_sector one.named other.named both.0) ∙ sym other.lifted, both.1)

cut_or_not : (family : FamilyData) (number : ℕ) (fault : CutFault) (sector : Sector) (o : Outcome) → fault_of number family ≡ Some fault → IsCutFault family number sector o → ⊥
cut_or_not family number fault sector o some refused = let none = refused.is_cut.no_fault in cc

pub cut_not_refused : (family : FamilyData) (number : ℕ) (status : Status) → DataWithin family → HasCutSystem family number → RefusesCut family number status → ⊥
cut_not_refused family number (Cut fault) within met refused = let none = met.is_cut.no_fault in cc
cut_not_refused family number (PairsSpent sector) within met refused = system_or_fault family number sector outcome.PairsSpent within met refused
cut_not_refused family number (DegreeOver sector) within met refused = system_or_fault family number sector outcome.DegreeOver within met refused
cut_not_refused family number (CandidatesOver sector) within met refused = system_or_fault family number sector outcome.CandidatesOver within met refused
cut_not_refused family number status within met refused = refused

once_cut : (family : FamilyData) (number : ℕ) (fault : CutFault) (status : Status) → fault_of number family ≡ Some fault → RefusesCut family number status → Cut fault ≡ status
once_cut family number fault (Cut other) one refused = ap Cut (same_Some fault other (sym one ∙ refused))
once_cut family number fault (PairsSpent sector) one refused = absurd (cut_or_not family number fault sector outcome.PairsSpent one refused)
once_cut family number fault (DegreeOver sector) one refused = absurd (cut_or_not family number fault sector outcome.DegreeOver one refused)
once_cut family number fault (CandidatesOver sector) one refused = absurd (cut_or_not family number fault sector outcome.CandidatesOver one refused)
once_cut family number fault status one refused = absurd refused

once_spent : (family : FamilyData) (number : ℕ) (sector : Sector) (status : Status) → DataWithin family → IsCutFault family number sector outcome.PairsSpent → RefusesCut family number status → PairsSpent sector ≡ status
once_spent family number sector (Cut fault) within one refused = absurd (cut_or_not family number fault sector outcome.PairsSpent refused one)
once_spent family number sector (PairsSpent other) within one refused = ap PairsSpent (one_cut_fault family number sector other outcome.PairsSpent outcome.PairsSpent within one refused).0
once_spent family number sector (DegreeOver other) within one refused = absurd (let same = (one_cut_fault family number sector other outcome.PairsSpent outcome.DegreeOver within one refused).1 in cc)
once_spent family number sector (CandidatesOver other) within one refused = absurd (let same = (one_cut_fault family number sector other outcome.PairsSpent outcome.CandidatesOver within one refused).1 in cc)
once_spent family number sector status within one refused = absurd refused

once_over : (family : FamilyData) (number : ℕ) (sector : Sector) (status : Status) → DataWithin family → IsCutFault family number sector outcome.DegreeOver → RefusesCut family number status → DegreeOver sector ≡ status
once_over family number sector (Cut fault) within one refused = absurd (cut_or_not family number fault sector outcome.DegreeOver refused one)
once_over family number sector (PairsSpent other) within one refused = absurd (let same = (one_cut_fault family number sector other outcome.DegreeOver outcome.PairsSpent within one refused).1 in cc)
once_over family number sector (DegreeOver other) within one refused = ap DegreeOver (one_cut_fault family number sector other outcome.DegreeOver outcome.DegreeOver within one refused).0
once_over family number sector (CandidatesOver other) within one refused = absurd (let same = (one_cut_fault family number sector other outcome.DegreeOver outcome.CandidatesOver within one refused).1 in cc)
once_over family number sector status within one refused = absurd refused

once_many : (family : FamilyData) (number : ℕ) (sector : Sector) (status : Status) → DataWithin family → IsCutFault family number sector outcome.CandidatesOver → RefusesCut family number status → CandidatesOver sector ≡ status
once_many family number sector (Cut fault) within one refused = absurd (cut_or_not family number fault sector outcome.CandidatesOver refused one)
once_many family number sector (PairsSpent other) within one refused = absurd (let same = (one_cut_fault family number sector other outcome.CandidatesOver outcome.PairsSpent within one refused).1 in cc)
once_many family number sector (DegreeOver other) within one refused = absurd (let same = (one_cut_fault family number sector other outcome.CandidatesOver outcome.DegreeOver within one refused).1 in cc)
once_many family number sector (CandidatesOver other) within one refused = ap CandidatesOver (one_cut_fault family number sector other outcome.CandidatesOver outcome.CandidatesOver within one refused).0
once_many family number sector status within one refused = absurd refused

pub cut_once : (family : FamilyData) (number : ℕ) (first second : Status) → DataWithin family → RefusesCut family number first → RefusesCut family number second → first ≡ second
cut_once family number (Cut fault) second within refused also = once_cut family number fault second refused also
cut_once family number (PairsSpent sector) second within refused also = once_spent family number sector second within refused also
cut_once family number (DegreeOver sector) second within refused also = once_over family number sector second within refused also
cut_once family number (CandidatesOver sector) second within refused also = once_many family number sector second within refused also
cut_once family number first second within refused also = absurd refused

-- a fault of the cut family's system refuses the family
pub refuses_cut : (family cut : FamilyData) (number : ℕ) (result : Result System SystemFault) (fault : SystemFault) → IsCutOf family number cut → IsAnswerFor cut result → result ≡ Err fault
    → IsAnswer (IsCutText family number) (RefusesCut family number) (Err (of_lifted_fault family.n number fault))
refuses_cut family cut number result (system.PairsSpent sector) is_cut answer is =
    let other : result ≢ Err system.NoMemory = λ e. absurd (cc) in
    record { cut = cut; is_cut = is_cut; named = sector; fault = (answer.pairs sector other).0 is; lifted = refl }
refuses_cut family cut number result (system.DegreeOver sector) is_cut answer is =
    let other : result ≢ Err system.NoMemory = λ e. absurd (cc) in
    record { cut = cut; is_cut = is_cut; named = sector; fault = (answer.degree sector other).0 is; lifted = refl }
refuses_cut family cut number result (system.CandidatesOver sector) is_cut answer is =
    let other : result ≢ Err system.NoMemory = λ e. absurd (cc) in
    record { cut = cut; is_cut = is_cut; named = sector; fault = (answer.candidates sector other).0 is; lifted = refl }
refuses_cut family cut number result system.NoMemory is_cut answer is = tt
