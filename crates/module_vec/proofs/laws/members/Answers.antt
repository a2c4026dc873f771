use Rattle.mono_order.specs.declared.limits.TheConstants.{VARIABLES}
use Rattle.module_vec.proofs.Textbook.{IsMember-sum_of_times}
use Rattle.module_vec.proofs.laws.members.Goals as goal

pub returns : goal.returns
returns c = λ list v. IsMember-sum_of_times VARIABLES list v
