-- The refusal that a fault of the file, of its probe, of a sector's run, of a family without a system, of a written text, of a cut or of a fold is.
use Rattle.std.specs.Prelude.{ℕ}
use Rattle.family_file.specs.declared.fault.FamilyFault.{FamilyFault}
use Rattle.family_file.specs.declared.fault.FamilyFault.TheVariants as file
use Rattle.ibp_relation.specs.declared.relation.IdentityFault.{IdentityFault}
use Rattle.ibp_relation.specs.declared.relation.IdentityFault.TheVariants as probe
use Rattle.module_basis.specs.declared.fault.BasisFault.{BasisFault}
use Rattle.module_basis.specs.declared.fault.BasisFault.TheVariants as basis
use Rattle.neat_system.specs.declared.fault.SystemFault.{SystemFault}
use Rattle.neat_system.specs.declared.fault.SystemFault.TheVariants as system
use Rattle.sector_lattice.specs.declared.sector.Sector.{Sector}
use Rattle.cut_family.specs.Lifting.{lifted_sector}
use Rattle.cut_family.specs.declared.fault.CutAnswer.{CutAnswer}
use Rattle.cut_family.specs.declared.fault.CutAnswer.TheVariants as cut
use Rattle.system_check.specs.declared.fault.CheckAnswer.{CheckAnswer}
use Rattle.system_check.specs.declared.fault.CheckAnswer.TheVariants as check
use Rattle.symmetry_fold.specs.declared.fault.FoldFault.{FoldFault}
use Rattle.symmetry_fold.specs.declared.fault.FoldFault.TheVariants as fold
use Rattle.commands.specs.declared.refusal.Refusal.{Refusal}
use Rattle.commands.specs.declared.refusal.Refusal.TheVariants.{File, NotDivisible, NotTangent, CheckedNo, Cut, NotSymmetric, PairsSpent, DegreeOver, CandidatesOver, NoMemory}

abbrev pub of_family_fault : FamilyFault → Refusal
of_family_fault (file.File fault) = File fault
of_family_fault file.NoMemory = NoMemory

abbrev pub of_identity_fault : IdentityFault → Refusal
of_identity_fault (probe.NotDivisible i) = NotDivisible i
of_identity_fault probe.NotTangent = NotTangent
of_identity_fault probe.NoMemory = NoMemory

abbrev pub of_basis_fault : Sector → BasisFault → Refusal
of_basis_fault sector basis.PairsSpent = PairsSpent sector
of_basis_fault sector basis.DegreeOver = DegreeOver sector
of_basis_fault sector basis.NoMemory = NoMemory

abbrev pub of_system_fault : SystemFault → Refusal
of_system_fault (system.PairsSpent sector) = PairsSpent sector
of_system_fault (system.DegreeOver sector) = DegreeOver sector
of_system_fault (system.CandidatesOver sector) = CandidatesOver sector
of_system_fault system.NoMemory = NoMemory

abbrev pub of_check_answer : CheckAnswer → Refusal
of_check_answer (check.No fault) = CheckedNo fault
of_check_answer check.NoMemory = NoMemory

abbrev pub of_cut_answer : CutAnswer → Refusal
of_cut_answer (cut.No fault) = Cut fault
of_cut_answer cut.NoMemory = NoMemory

abbrev pub of_fold_fault : FoldFault → Refusal
of_fold_fault (fold.NotSymmetric k) = NotSymmetric k
of_fold_fault fold.NoMemory = NoMemory

-- a fault of the system of the cut family concerns the lifted sector
abbrev pub of_lifted_fault : ℕ → ℕ → SystemFault → Refusal
of_lifted_fault n number (system.PairsSpent sector) = PairsSpent (lifted_sector n number sector)
of_lifted_fault n number (system.DegreeOver sector) = DegreeOver (lifted_sector n number sector)
of_lifted_fault n number (system.CandidatesOver sector) = CandidatesOver (lifted_sector n number sector)
of_lifted_fault n number system.NoMemory = NoMemory
