use Rattle.mono_order.specs.declared.limits.TheConstants.{VARIABLES}
use Rattle.module_vec.specs.ModuleVector.{IsMember}
use Rattle.module_basis.proofs.ReducedBases.{elimination}
use Rattle.module_basis.proofs.laws.elimination.Goals as goal

pub returns : goal.returns
returns g c = λ generators list monic basis. elimination g.met.O.TermOrder.laws (IsMember VARIABLES generators) list monic basis
