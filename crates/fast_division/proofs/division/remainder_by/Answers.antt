use Rattle.fast_division.proofs.Drains.{not_over}
use Rattle.fast_division.proofs.division.remainder_by.Goals as goal

pub returns-clause-within : goal.returns-clause-within
returns-clause-within g c = not_over g.O.TermOrder.order c.args.list.now c.args.v.now c.assign.new.self c.drain_remainder.result c.in_ok-assign.ensures c.drain_remainder.ensures.remainder
