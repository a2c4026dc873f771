use Rattle.mono_order.specs.declared.limits.TheConstants.{VARIABLES}
use Rattle.module_vec.proofs.Submodules.{IsSubmodule-IsMember}
use Rattle.module_vec.proofs.laws.submodule.Goals as goal

pub returns : goal.returns
returns c = λ list. IsSubmodule-IsMember VARIABLES list
