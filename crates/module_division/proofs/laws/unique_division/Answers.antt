use Rattle.module_vec.proofs.DivisionLaws.{DividesTo-unique}
use Rattle.module_division.proofs.laws.unique_division.Goals as goal

pub returns : goal.returns
returns g c = λ list v limit first second. DividesTo-unique g.O.TermOrder.order limit list v first second
