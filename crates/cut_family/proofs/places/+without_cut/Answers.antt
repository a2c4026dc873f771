use Rattle.std.proofs.Common.{◌-◌, ◌%◌, arith}
use Rattle.cut_family.proofs.PlaceLaws.{doubled, still_below}
use Rattle.cut_family.proofs.places.+without_cut.Goals as goal

pub returns-then-is_cut-clause-bound : goal.returns-then-is_cut-clause-bound
returns-then-is_cut-clause-bound t c = still_below c.args.n (c.args.n - 1) c.without_cut-others.result (omega arith) c.without_cut-others.ensures.bound

pub returns-else-is_cut-clause-bound : goal.returns-else-is_cut-clause-bound
returns-else-is_cut-clause-bound t c = doubled c.args.n (c.args.n - 1) (c.args.sector % 2) c.without_cut-others.result (omega arith) (omega arith) c.without_cut-others.ensures.bound
