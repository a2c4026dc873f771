use Rattle.std.proofs.Common.{arith}
use Rattle.std.specs.Int.Count.{ones-le}
use Rattle.sector_lattice.proofs.seeding.seed_count.Goals as goal

pub spreads-requires-clause-few : goal.spreads-requires-clause-few
spreads-requires-clause-few c = omega (arith, ones-le c.args.n c.args.sector.0 c.requires.is_sector.within)

pub overflow_sub-n : goal.overflow_sub-n
overflow_sub-n c = omega (arith, ones-le c.args.n c.args.sector.0 c.requires.is_sector.within)
