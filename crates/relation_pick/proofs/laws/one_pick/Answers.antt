use Rattle.sector_lattice.specs.Sectors.{integral_cmp}
use Rattle.sector_lattice.specs.Orders.{integral_cmp_total, same_integrals}
use Rattle.relation_pick.proofs.Uniqueness.{IsPick-unique}
use Rattle.relation_pick.proofs.laws.one_pick.Goals as goal

pub returns : goal.returns
returns c = IsPick-unique integral_cmp integral_cmp_total same_integrals
