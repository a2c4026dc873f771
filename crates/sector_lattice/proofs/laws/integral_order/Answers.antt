use Rattle.sector_lattice.specs.Orders.{integral_cmp_total, same_integrals}
use Rattle.sector_lattice.proofs.laws.integral_order.Goals as goal

pub returns-clause-total : goal.returns-clause-total
returns-clause-total c = integral_cmp_total

pub returns-clause-exact : goal.returns-clause-exact
returns-clause-exact c = same_integrals
