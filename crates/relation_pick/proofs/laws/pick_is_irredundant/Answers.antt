use Rattle.sector_lattice.specs.Sectors.{integral_cmp}
use Rattle.sector_lattice.specs.Orders.{integral_cmp_total, same_integrals}
use Rattle.relation_pick.proofs.ByRows.{pick_is_irredundant}
use Rattle.relation_pick.proofs.laws.pick_is_irredundant.Goals as goal

pub returns : goal.returns
returns c = pick_is_irredundant integral_cmp integral_cmp_total same_integrals
