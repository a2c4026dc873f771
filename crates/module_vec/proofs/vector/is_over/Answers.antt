use Rattle.std.proofs.Common.{sym, arith}
use Rattle.mono_order.specs.declared.limits.TheConstants.{VARIABLES, RUN_DEGREE}
use Rattle.mono_order.specs.Term.{IsTerm}
use Rattle.module_vec.proofs.Degrees.{over_at, within_more, within_all, AllKeys-more, AllKeys-whole}
use Rattle.module_vec.proofs.vector.is_over.Goals as goal

pub returns-then-degree_of-gt-RUN_DEGREE-clause-over : goal.returns-then-degree_of-gt-RUN_DEGREE-clause-over
returns-then-degree_of-gt-RUN_DEGREE-clause-over c =
    sym (over_at RUN_DEGREE _ _ c.loop-term-item.result c.loop-term-test.true c.loop-term-item.is (omega (arith, c.if-degree_of-gt-RUN_DEGREE.true, c.degree_of.ensures.degree)))

pub loop-term-preserved : goal.loop-term-preserved
loop-term-preserved c = record {
  within = within_more RUN_DEGREE _ _ c.loop-term-item.result c.loop-term-test.true c.loop-term-item.is
      (omega (arith, c.if-degree_of-gt-RUN_DEGREE.false, c.degree_of.ensures.degree)) c.loop-term.invariant.within;
  kept = AllKeys-more (IsTerm VARIABLES) _ _ c.loop-term-item.result c.loop-term-test.true c.loop-term-item.is c.degree_of.ensures.kept c.loop-term.invariant.kept;
}

pub returns-clause-over : goal.returns-clause-over
returns-clause-over c = sym (within_all RUN_DEGREE _ _ c.loop-term-test.false c.loop-term.invariant.within)

pub returns-clause-kept : goal.returns-clause-kept
returns-clause-kept c = λ _. AllKeys-whole (IsTerm VARIABLES) _ _ c.loop-term-test.false c.loop-term.invariant.kept
