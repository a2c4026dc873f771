use Rattle.std.proofs.Common.{◌<◌, ◌+◌, length, arith}
use Rattle.fast_division.proofs.Totals.{IsPartition-swap, swapped_total}
use Rattle.fast_division.proofs.bucket_sum.exchange.Goals as goal

pub returns-clause-partition : goal.returns-clause-partition
returns-clause-partition g c =
    let next : c.args.level + 1 < length c.args.levels.now.items = omega (arith, c.requires.level, c.requires.partition.long) in
    IsPartition-swap g.O.TermOrder.order c.args.levels.now.items c.swap.new.self.items c.args.level (c.args.level + 1) (omega (arith, next)) next c.swap.ensures.items c.requires.partition

pub returns-clause-same : goal.returns-clause-same
returns-clause-same g c =
    let next : c.args.level + 1 < length c.args.levels.now.items = omega (arith, c.requires.level, c.requires.partition.long) in
    swapped_total c.args.levels.now.items c.swap.new.self.items c.args.level (c.args.level + 1) (omega (arith, next)) next (λ e. absurd (omega (arith, e))) c.swap.ensures.items
