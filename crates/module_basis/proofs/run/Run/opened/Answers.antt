use Rattle.std.proofs.Common.{sym, ap, ◌∙◌}
use Rattle.mono_order.specs.declared.limits.TheConstants.{VARIABLES, RUN_DEGREE}
use Rattle.module_basis.specs.PlainRun.{with_element}
use Rattle.module_basis.proofs.Opening.{IsOpened-more}
use Rattle.module_basis.proofs.run.Run.opened.Goals as goal

pub loop-generator-preserved : goal.loop-generator-preserved
loop-generator-preserved g c =
    let order = g.O.TermOrder.order in
    IsOpened-more order c.args.by RUN_DEGREE VARIABLES c.args.generators.now c.loop-generator.generator-index c.loop-generator.run c.in_ok-run.run' c.generator-item.result
    c.loop-generator-test.true c.generator-item.is c.in_ok-made_monic.ensures.kept
    (ap (with_element order RUN_DEGREE c.loop-generator.run) (sym c.in_ok-made_monic.ensures.value) ∙ c.in_ok-run.ensures.added) c.loop-generator.invariant
