-- `plain` refuses a family in one way, and only where it has no system.
use Rattle.std.proofs.Common.{◌≡◌, ℕ, ap}
use Rattle.sector_lattice.specs.declared.sector.Sector.{Sector}
use Rattle.family.specs.Within.{DataWithin}
use Rattle.family.specs.FamilyData.{FamilyData}
use Rattle.sector_job.specs.declared.outcome.Outcome.TheVariants as outcome
use Rattle.neat_system.specs.System.{IsFault}
use Rattle.neat_system.proofs.OneSystem.{one_fault, never_both}
use Rattle.commands.specs.Plain.{HasSystem, RefusesPlain}
use Rattle.commands.specs.declared.status.Status.{Status}
use Rattle.commands.specs.declared.status.Status.TheVariants.{PairsSpent, DegreeOver, CandidatesOver}

pub same_sector : (s t : Sector) → s.0 ≡ t.0 → s ≡ t
same_sector s t same = ap (λ (k : ℕ). let sector : Sector = record { 0 = k } in sector) same

pub plain_not_refused : (family : FamilyData) (status : Status) → DataWithin family → HasSystem family → RefusesPlain family status → ⊥
plain_not_refused family (PairsSpent sector) within met refused = never_both family within met.system sector.0 outcome.PairsSpent refused met.is_system
plain_not_refused family (DegreeOver sector) within met refused = never_both family within met.system sector.0 outcome.DegreeOver refused met.is_system
plain_not_refused family (CandidatesOver sector) within met refused = never_both family within met.system sector.0 outcome.CandidatesOver refused met.is_system
plain_not_refused family status within met refused = refused

once_spent : (family : FamilyData) (sector : Sector) (status : Status) → DataWithin family → IsFault family sector.0 outcome.PairsSpent → RefusesPlain family status → PairsSpent sector ≡ status
once_spent family sector (PairsSpent other) within one refused = ap PairsSpent (same_sector sector other (one_fault family within sector.0 other.0 outcome.PairsSpent outcome.PairsSpent one refused).0)
once_spent family sector (DegreeOver other) within one refused = absurd (let same = (one_fault family within sector.0 other.0 outcome.PairsSpent outcome.DegreeOver one refused).1 in cc)
once_spent family sector (CandidatesOver other) within one refused = absurd (let same = (one_fault family within sector.0 other.0 outcome.PairsSpent outcome.CandidatesOver one refused).1 in cc)
once_spent family sector status within one refused = absurd refused

once_over : (family : FamilyData) (sector : Sector) (status : Status) → DataWithin family → IsFault family sector.0 outcome.DegreeOver → RefusesPlain family status → DegreeOver sector ≡ status
once_over family sector (PairsSpent other) within one refused = absurd (let same = (one_fault family within sector.0 other.0 outcome.DegreeOver outcome.PairsSpent one refused).1 in cc)
once_over family sector (DegreeOver other) within one refused = ap DegreeOver (same_sector sector other (one_fault family within sector.0 other.0 outcome.DegreeOver outcome.DegreeOver one refused).0)
once_over family sector (CandidatesOver other) within one refused = absurd (let same = (one_fault family within sector.0 other.0 outcome.DegreeOver outcome.CandidatesOver one refused).1 in cc)
once_over family sector status within one refused = absurd refused

once_many : (family : FamilyData) (sector : Sector) (status : Status) → DataWithin family → IsFault family sector.0 outcome.CandidatesOver → RefusesPlain family status → CandidatesOver sector ≡ status
once_many family sector (PairsSpent other) within one refused = absurd (let same = (one_fault family within sector.0 other.0 outcome.CandidatesOver outcome.PairsSpent one refused).1 in cc)
once_many family sector (DegreeOver other) within one refused = absurd (let same = (one_fault family within sector.0 other.0 outcome.CandidatesOver outcome.DegreeOver one refused).1 in cc)
once_many family sector (CandidatesOver other) within one refused = ap CandidatesOver (same_sector sector other (one_fault family within sector.0 other.0 outcome.CandidatesOver outcome.CandidatesOver one refused).0)
once_many family sector status within one refused = absurd refused

pub plain_once : (family : FamilyData) (first second : Status) → DataWithin family → RefusesPlain family first → RefusesPlain family second → first ≡ second
plain_once family (PairsSpent sector) second within refused also = once_spent family sector second within refused also
plain_once family (DegreeOver sector) second within refused also = once_over family sector second within refused also
plain_once family (CandidatesOver sector) second within refused also = once_many family sector second within refused also
plain_once family first second within refused also = absurd refused
