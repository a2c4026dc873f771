use Rattle.module_basis.proofs.RunCounts.{run_counts}
use Rattle.module_basis.proofs.laws.counts.Goals as goal

pub returns : goal.returns
returns g c = λ generators list by limit budget taken run. run_counts g.O.TermOrder.order by limit budget generators list taken run
