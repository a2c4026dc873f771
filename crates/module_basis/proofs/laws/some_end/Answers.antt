use Rattle.module_basis.proofs.RunLaws.{run_ends}
use Rattle.module_basis.proofs.laws.some_end.Goals as goal

pub returns : goal.returns
returns g c = λ generators by limit budget vectors not_zero. run_ends g.met.O.TermOrder.laws generators vectors not_zero by limit budget
