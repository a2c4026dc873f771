use Rattle.std.proofs.Common.{◌-◌, ◌%◌, arith}
use Rattle.cut_family.proofs.PlaceLaws.{doubled}
use Rattle.cut_family.proofs.places.+with_cut.Goals as goal

pub returns-then-is_cut-clause-bound : goal.returns-then-is_cut-clause-bound
returns-then-is_cut-clause-bound t c = doubled c.args.n (c.args.n - 1) 1 c.with_cut.result (omega arith) (omega arith) c.with_cut.ensures.bound

pub returns-clause-bound : goal.returns-clause-bound
returns-clause-bound t c = doubled c.args.n (c.args.n - 1) (c.args.sector % 2) c.with_cut-2.result (omega arith) (omega arith) c.with_cut-2.ensures.bound
