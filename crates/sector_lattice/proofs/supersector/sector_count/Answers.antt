use Rattle.std.proofs.Common.{◌≤◌, ◌^◌, arith}
use Rattle.std.proofs.Math.Pow.{pow_mono}
use Rattle.sector_lattice.specs.declared.integral.TheConstants.{LINES}
use Rattle.sector_lattice.proofs.supersector.sector_count.Goals as goal

pub returns-clause-bound : goal.returns-clause-bound
returns-clause-bound c = let few : c.from.result ≤ LINES = omega arith in let most : 2 ^ c.from.result ≤ 2 ^ LINES = pow_mono few in omega arith
