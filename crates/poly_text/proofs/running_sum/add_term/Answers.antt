use Rattle.poly_text.proofs.RunningSums.{before_counts, counted_after}
use Rattle.poly_text.proofs.running_sum.add_term.Goals as goal

pub len_after-requires-clause-counted : goal.len_after-requires-clause-counted
len_after-requires-clause-counted c =
    before_counts c.args.first.now c.args.others.now.entries c.args.monomial _ _ _ _ c.coefficient.ensures c.in_ok-other.ensures.before c.add-before.ensures c.requires.counted

pub returns-clause-counted : goal.returns-clause-counted
returns-clause-counted c =
    counted_after c.args.first.now c.args.others.now.entries _ c.args.monomial c.args.value _ _ _ _ _ _ c.requires.canonical c.in_ok-other.ensures.added c.coefficient.ensures
    c.in_ok-other.ensures.before c.add-before.ensures c.add.ensures c.requires.counted c.len_after.ensures
