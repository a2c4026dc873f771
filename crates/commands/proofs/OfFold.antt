-- `fold` refuses a family in one way, and only where a permutation isn't a symmetry of it or it has no system.
use Rattle.std.proofs.Common.{◌≡◌, ◌≢◌, ℕ, Result, Err, ap}
use Rattle.sector_lattice.specs.declared.sector.Sector.{Sector}
use Rattle.family.specs.Within.{DataWithin}
use Rattle.family.specs.FamilyData.{FamilyData}
use Rattle.sector_job.specs.declared.outcome.Outcome.TheVariants as outcome
use Rattle.system_text.specs.declared.value.System.{System}
use Rattle.neat_system.specs.Answer.{IsAnswerFor}
use Rattle.neat_system.specs.declared.fault.SystemFault.{SystemFault}
use Rattle.neat_system.specs.declared.fault.SystemFault.TheVariants as system
use Rattle.neat_system.proofs.OneSystem.{one_fault, never_both}
use Rattle.symmetry_fold.specs.Symmetries.{AreSymmetries, IsFirstBroken}
use Rattle.symmetry_fold.specs.declared.fault.FoldFault.{FoldFault}
use Rattle.symmetry_fold.specs.declared.fault.FoldFault.TheVariants as fold
use Rattle.symmetry_fold.proofs.FirstBroken.{never_broken, one_broken}
use Rattle.commands.specs.Answers.{IsAnswer}
use Rattle.commands.specs.Fold.{HasFold, IsFoldFault, IsFoldText, RefusesFold}
use Rattle.commands.specs.Refusals.{of_fold_fault, of_system_fault}
use Rattle.commands.specs.declared.status.Status.{Status}
use Rattle.commands.specs.declared.status.Status.TheVariants.{PairsSpent, DegreeOver, CandidatesOver, NotSymmetric}
use Rattle.commands.proofs.OfPlain.{same_sector}

pub fold_not_refused : (family : FamilyData) (status : Status) → DataWithin family → HasFold family → RefusesFold family status → ⊥
fold_not_refused family (NotSymmetric k) within met refused = never_broken family k met.symmetric refused
fold_not_refused family (PairsSpent sector) within met refused = never_both family within met.system sector.0 outcome.PairsSpent refused.fault met.is_system
fold_not_refused family (DegreeOver sector) within met refused = never_both family within met.system sector.0 outcome.DegreeOver refused.fault met.is_system
fold_not_refused family (CandidatesOver sector) within met refused = never_both family within met.system sector.0 outcome.CandidatesOver refused.fault met.is_system
fold_not_refused family status within met refused = refused

once_spent : (family : FamilyData) (sector : Sector) (status : Status) → DataWithin family → IsFoldFault family sector.0 outcome.PairsSpent → RefusesFold family status → PairsSpent sector ≡ status
once_spent family sector (NotSymmetric k) within one refused = absurd (never_broken family k one.symmetric refused)
once_spent family sector (PairsSpent other) within one refused = ap PairsSpent (same_sector sector other (one_fault family within sector.0 other.0 outcome.PairsSpent outcome.PairsSpent one.fault refused.fault).0)
once_spent family sector (DegreeOver other) within one refused = absurd (let same = (one_fault family within sector.0 other.0 outcome.PairsSpent outcome.DegreeOver one.fault refused.fault).1 in cc)
once_spent family sector (CandidatesOver other) within one refused = absurd (let same = (one_fault family within sector.0 other.0 outcome.PairsSpent outcome.CandidatesOver one.fault refused.fault).1 in cc)
once_spent family sector status within one refused = absurd refused

once_over : (family : FamilyData) (sector : Sector) (status : Status) → DataWithin family → IsFoldFault family sector.0 outcome.DegreeOver → RefusesFold family status → DegreeOver sector ≡ status
once_over family sector (NotSymmetric k) within one refused = absurd (never_broken family k one.symmetric refused)
once_over family sector (PairsSpent other) within one refused = absurd (let same = (one_fault family within sector.0 other.0 outcome.DegreeOver outcome.PairsSpent one.fault refused.fault).1 in cc)
once_over family sector (DegreeOver other) within one refused = ap DegreeOver (same_sector sector other (one_fault family within sector.0 other.0 outcome.DegreeOver outcome.DegreeOver one.fault refused.fault).0)
once_over family sector (CandidatesOver other) within one refused = absurd (let same = (one_fault family within sector.0 other.0 outcome.DegreeOver outcome.CandidatesOver one.fault refused.fault).1 in cc)
once_over family sector status within one refused = absurd refused

once_many : (family : FamilyData) (sector : Sector) (status : Status) → DataWithin family → IsFoldFault family sector.0 outcome.CandidatesOver → RefusesFold family status → CandidatesOver sector ≡ status
once_many family sector (NotSymmetric k) within one refused = absurd (never_broken family k one.symmetric refused)
once_many family sector (PairsSpent other) within one refused = absurd (let same = (one_fault family within sector.0 other.0 outcome.CandidatesOver outcome.PairsSpent one.fault refused.fault).1 in cc)
once_many family sector (DegreeOver other) within one refused = absurd (let same = (one_fault family within sector.0 other.0 outcome.CandidatesOver outcome.DegreeOver one.fault refused.fault).1 in cc)
once_many family sector (CandidatesOver other) within one refused = ap CandidatesOver (same_sector sector other (one_fault family within sector.0 other.0 outcome.CandidatesOver outcome.CandidatesOver one.fault refused.fault).0)
once_many family sector status within one refused = absurd refused

once_broken : (family : FamilyData) (k : ℕ) (status : Status) → IsFirstBroken family k → RefusesFold family status → NotSymmetric k ≡ status
once_broken family k (NotSymmetric other) one refused = ap NotSymmetric (one_broken family k other one refused)
once_broken family k (PairsSpent sector) one refused = absurd (never_broken family k refused.symmetric one)
once_broken family k (DegreeOver sector) one refused = absurd (never_broken family k refused.symmetric one)
once_broken family k (CandidatesOver sector) one refused = absurd (never_broken family k refused.symmetric one)
once_broken family k status one refused = absurd refused

pub fold_once : (family : FamilyData) (first second : Status) → DataWithin family → RefusesFold family first → RefusesFold family second → first ≡ second
fold_once family (NotSymmetric k) second within refused also = once_broken family k second refused also
fold_once family (PairsSpent sector) second within refused also = once_spent family sector second within refused also
fold_once family (DegreeOver sector) second within refused also = once_over family sector second within refused also
fold_once family (CandidatesOver sector) second within refused also = once_many family sector second within refused also
fold_once family first second within refused also = absurd refused

-- a fault of the family's system refuses the family
pub refuses_run : (family : FamilyData) (result : Result System SystemFault) (fault : SystemFault) → AreSymmetries family → IsAnswerFor family result → result ≡ Err fault
    → IsAnswer (IsFoldText family) (RefusesFold family) (Err (of_system_fault fault))
refuses_run family result (system.PairsSpent sector) symmetric answer is =
    let other : result ≢ Err system.NoMemory = λ e. absurd (cc) in
    record { symmetric = symmetric; fault = (answer.pairs sector other).0 is }
refuses_run family result (system.DegreeOver sector) symmetric answer is =
    let other : result ≢ Err system.NoMemory = λ e. absurd (cc) in
    record { symmetric = symmetric; fault = (answer.degree sector other).0 is }
refuses_run family result (system.CandidatesOver sector) symmetric answer is =
    let other : result ≢ Err system.NoMemory = λ e. absurd (cc) in
    record { symmetric = symmetric; fault = (answer.candidates sector other).0 is }
refuses_run family result system.NoMemory symmetric answer is = tt

-- and so does a fault of the fold
pub refuses_fold : (family : FamilyData) (result : Result System FoldFault) (fault : FoldFault) → ((k : ℕ) → result ≡ Err (fold.NotSymmetric k) → IsFirstBroken family k) → result ≡ Err fault
    → IsAnswer (IsFoldText family) (RefusesFold family) (Err (of_fold_fault fault))
refuses_fold family result (fold.NotSymmetric k) told is = told k is
refuses_fold family result fold.NoMemory told is = tt
