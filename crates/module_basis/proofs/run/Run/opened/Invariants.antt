use Rattle.mono_order.specs.declared.limits.TheConstants.{VARIABLES, RUN_DEGREE}
use Rattle.module_basis.proofs.Opening.{IsOpened}
use Rattle.module_basis.proofs.run.Run.opened.Given as goal

abbrev pub invariant-loop-generator : goal.invariant-loop-generator
invariant-loop-generator g l = IsOpened g.O.TermOrder.order l.fn.by RUN_DEGREE VARIABLES l.generators l.generator-index l.run
