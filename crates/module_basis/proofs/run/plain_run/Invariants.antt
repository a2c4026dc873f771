use Rattle.std.proofs.Common.{◌-◌}
use Rattle.mono_order.specs.declared.limits.TheConstants.{RUN_DEGREE}
use Rattle.module_basis.proofs.RunSteps.{IsUnderWay}
use Rattle.module_basis.proofs.run.plain_run.Given as goal

abbrev pub invariant-pairs : goal.invariant-pairs
invariant-pairs g l = IsUnderWay g.O.TermOrder.order l.fn.by RUN_DEGREE l.generators l.pairs l.run

abbrev pub decreases-pairs : goal.decreases-pairs
decreases-pairs g l = l.pairs - l.run.taken
