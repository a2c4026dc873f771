use Rattle.std.proofs.Common.{◌+◌, ◌-◌, ◌*◌, ◌/◌, ◌≤◌, ◌^◌, ap, sym, ◌∙◌, arith}
use Rattle.sector_lattice.specs.declared.integral.TheConstants.{LINES}
use Rattle.sector_lattice.specs.declared.seeding.TheConstants.{SEED_LIMIT}
use Rattle.sector_lattice.proofs.Counting.{binomial_none, ways_bound, ways_product, next_ways}
use Rattle.sector_lattice.proofs.seeding.spreads.Goals as goal

pub loop-spent-init : goal.loop-spent-init
loop-spent-init c = sym (binomial_none (c.args.places + 0))

pub overflow_mul-ways : goal.overflow_mul-ways
overflow_mul-ways c =
    let ways : c.loop-spent.ways ≤ 2 ^ (LINES + SEED_LIMIT - 1) = ways_bound c.args.places c.loop-spent.spent c.loop-spent.ways (omega arith) c.loop-spent.invariant in
    let product : c.loop-spent.ways * (c.from.result + c.loop-spent.spent + 1) ≤ 2 ^ (LINES + SEED_LIMIT - 1) * (LINES + SEED_LIMIT) =
    ways_product c.loop-spent.ways (c.from.result + c.loop-spent.spent + 1) ways (omega arith) in
    omega arith

pub loop-spent-preserved : goal.loop-spent-preserved
loop-spent-preserved c = ap (λ m. c.loop-spent.ways * (m + c.loop-spent.spent + 1) / (c.loop-spent.spent + 1)) c.from.ensures ∙ next_ways c.args.places c.loop-spent.spent c.loop-spent.ways c.loop-spent.invariant

pub returns-clause-bound : goal.returns-clause-bound
returns-clause-bound c = ways_bound c.args.places c.loop-spent.spent c.loop-spent.ways (omega arith) c.loop-spent.invariant
