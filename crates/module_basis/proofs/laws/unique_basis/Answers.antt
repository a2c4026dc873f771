use Rattle.mono_order.specs.declared.limits.TheConstants.{VARIABLES}
use Rattle.module_vec.specs.ModuleVector.{IsMember}
use Rattle.module_vec.proofs.Submodules.{IsSubmodule-IsMember}
use Rattle.module_basis.specs.GroebnerBasis.{IsLowMember}
use Rattle.module_basis.proofs.ReducedBases.{IsSubmodule-IsLowMember}
use Rattle.module_basis.proofs.UniqueBasis.{reduced_basis_unique}
use Rattle.module_basis.proofs.laws.unique_basis.Goals as goal

pub returns : goal.returns
returns g c =
    λ generators first second h k.
    reduced_basis_unique g.met.O.TermOrder.laws (IsLowMember g.O.TermOrder.high (IsMember VARIABLES generators))
    (IsSubmodule-IsLowMember VARIABLES g.O.TermOrder.high (IsMember VARIABLES generators) (IsSubmodule-IsMember VARIABLES generators)) first second h k
