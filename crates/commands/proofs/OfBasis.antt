-- `basis` refuses a family and a sector in one way, and only where the sector's run isn't done.
use Rattle.std.proofs.Common.{◌≡◌, ◌≢◌, ℕ, sym, ap, ◌∙◌}
use Rattle.module_basis.specs.PlainRun as run
use Rattle.sector_lattice.specs.declared.sector.Sector.{Sector}
use Rattle.family.specs.FamilyData.{FamilyData}
use Rattle.mono_order.specs.declared.limits.TheConstants.{RUN_DEGREE}
use Rattle.mono_order.specs.TermOrder.{zero_dominates}
use Rattle.module_basis.proofs.RunEnds.{RunsTo-unique}
use Rattle.sector_module.specs.Factors.{sector_generators, sector_pair_order}
use Rattle.sector_job.specs.Outcomes.{EndsSo}
use Rattle.commands.specs.Basis.{IsRunDone, RefusesBasis}
use Rattle.commands.specs.declared.status.Status.{Status}
use Rattle.commands.specs.declared.status.Status.TheVariants.{PairsSpent, DegreeOver}

end_once : (family : FamilyData) (number : ℕ) (first second : run.RunEnd) → EndsSo family number first → EndsSo family number second → first ≡ second
end_once family number first second one other = RunsTo-unique zero_dominates (sector_pair_order family.baikov family.n number family.budget) RUN_DEGREE (sector_generators family.baikov family.n number) family.budget.pairs first second one other

spent_isn't_over : run.PairsSpent ≢ run.DegreeOver
spent_isn't_over e = cc

sector_numbered : (s t : Sector) (number : ℕ) → s.0 ≡ number → t.0 ≡ number → s ≡ t
sector_numbered s t number one other = ap (λ (k : ℕ). let sector : Sector = record { 0 = k } in sector) (one ∙ sym other)

pub basis_not_refused : (family : FamilyData) (number : ℕ) (status : Status) → IsRunDone family number → RefusesBasis family number status → ⊥
basis_not_refused family number (PairsSpent sector) met refused = let e = end_once family number _ _ met.ends refused.1 in cc
basis_not_refused family number (DegreeOver sector) met refused = let e = end_once family number _ _ met.ends refused.1 in cc
basis_not_refused family number status met refused = refused

once_spent : (family : FamilyData) (number : ℕ) (sector : Sector) (status : Status) → RefusesBasis family number (PairsSpent sector) → RefusesBasis family number status → PairsSpent sector ≡ status
once_spent family number sector (PairsSpent other) one refused = ap PairsSpent (sector_numbered sector other number one.0 refused.0)
once_spent family number sector (DegreeOver other) one refused = absurd (spent_isn't_over (end_once family number _ _ one.1 refused.1))
once_spent family number sector status one refused = absurd refused

once_over : (family : FamilyData) (number : ℕ) (sector : Sector) (status : Status) → RefusesBasis family number (DegreeOver sector) → RefusesBasis family number status → DegreeOver sector ≡ status
once_over family number sector (PairsSpent other) one refused = absurd (spent_isn't_over (end_once family number _ _ refused.1 one.1))
once_over family number sector (DegreeOver other) one refused = ap DegreeOver (sector_numbered sector other number one.0 refused.0)
once_over family number sector status one refused = absurd refused

pub basis_once : (family : FamilyData) (number : ℕ) (first second : Status) → RefusesBasis family number first → RefusesBasis family number second → first ≡ second
basis_once family number (PairsSpent sector) second refused also = once_spent family number sector second refused also
basis_once family number (DegreeOver sector) second refused also = once_over family number sector second refused also
basis_once family number first second refused also = absurd refused
