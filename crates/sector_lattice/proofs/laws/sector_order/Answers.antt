use Rattle.sector_lattice.specs.Orders.{sector_cmp_total, same_sectors}
use Rattle.sector_lattice.proofs.laws.sector_order.Goals as goal

pub returns-clause-total : goal.returns-clause-total
returns-clause-total c = sector_cmp_total

pub returns-clause-exact : goal.returns-clause-exact
returns-clause-exact c = same_sectors
