use Rattle.module_basis.proofs.Keeping.{IsPlaced}
use Rattle.module_basis.proofs.reduce.place_of.Given as goal

abbrev pub invariant-loop-place : goal.invariant-loop-place
invariant-loop-place g l = IsPlaced g.O.TermOrder.order l.term l.list l.place
