use Rattle.module_basis.proofs.RunEnds.{RunsTo-unique}
use Rattle.module_basis.proofs.laws.unique_end.Goals as goal

pub returns : goal.returns
returns g c = λ generators by limit budget first second h k. RunsTo-unique g.O.TermOrder.order by limit generators budget first second h k
