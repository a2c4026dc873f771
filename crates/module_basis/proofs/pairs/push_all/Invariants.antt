use Rattle.module_basis.proofs.Opening.{IsPushed}
use Rattle.module_basis.proofs.pairs.push_all.Given as goal

abbrev pub invariant-loop-pair : goal.invariant-loop-pair
invariant-loop-pair g l = IsPushed g.O.TermOrder.order l.pairs l.fn.queue l.pair-index l.queue
