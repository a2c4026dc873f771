use Rattle.sector_lattice.proofs.Listed.{same_test}
use Rattle.sector_lattice.proofs.sector.lies_in.Goals as goal

pub returns : goal.returns
returns c = same_test c.is_subsector.result c.args.inner.0 c.args.outer.0 c.is_subsector.ensures
