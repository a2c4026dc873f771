use Rattle.std.proofs.Common.{take}
use Rattle.std.specs.List.{AllZip}
use Rattle.mono_order.specs.declared.limits.TheConstants.{VARIABLES}
use Rattle.module_basis.specs.GroebnerBasis.{IsTailReduced}
use Rattle.module_basis.proofs.reduce.with_reduced_tails.Given as goal

abbrev pub invariant-loop-vector : goal.invariant-loop-vector
invariant-loop-vector g l = AllZip (IsTailReduced g.O.TermOrder.order VARIABLES l.list) (take l.vector-index l.list) l.reduced.items
