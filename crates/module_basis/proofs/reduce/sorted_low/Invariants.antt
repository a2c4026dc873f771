use Rattle.module_basis.proofs.Keeping.{IsSorting}
use Rattle.module_basis.proofs.reduce.sorted_low.Given as goal

abbrev pub invariant-loop-element : goal.invariant-loop-element
invariant-loop-element g l = IsSorting g.O.TermOrder.order g.O.TermOrder.high l.elements l.element-index l.sorted.items
