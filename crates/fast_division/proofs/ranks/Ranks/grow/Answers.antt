use Rattle.std.proofs.Common.{◌+◌, length, ap, arith}
use Rattle.fast_division.specs.Ranks.{below}
use Rattle.fast_division.proofs.RankOrder.{below-mono}
use Rattle.fast_division.proofs.ranks.Ranks.grow.Goals as goal

pub returns-in_default-clause-wide : goal.returns-in_default-clause-wide
returns-in_default-clause-wide c =
    omega (
      arith,
      c.in_default.ensures.wide,
      below-mono c.rows.self-inside.variables (length c.deref.result.now) (c.args.degree + 1) (omega (arith, c.rows-test.true, c.len.ensures, c.deref.ensures.len)),
      ap (λ n. below n (c.args.degree + 1)) c.rows.invariant.variables,
    )
