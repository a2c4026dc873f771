use Rattle.poly_text.proofs.RunningSums.{too_many, few_enough}
use Rattle.poly_text.proofs.running_sum.RunningSum.with_multiple.Goals as goal

pub returns-then-len-gt-TERM_LIMIT : goal.returns-then-len-gt-TERM_LIMIT
returns-then-len-gt-TERM_LIMIT c =
    too_many c.args.at c.self.inside.first c.self.inside.others.entries _ c.args.f.now _ c.args.self c.args.factor _ c.self.view_is c.terms.ensures.same
    c.in_ok-len.ensures.sum c.in_ok-len.ensures.counted c.if-len-gt-TERM_LIMIT.true

pub returns : goal.returns
returns c =
    few_enough c.args.at c.self.inside.first c.self.inside.others.entries _ c.args.f.now _ c.args.self c.args.factor _ c.self.view_is c.terms.ensures.same
    c.in_ok-len.ensures.sum c.in_ok-len.ensures.counted c.if-len-gt-TERM_LIMIT.false
