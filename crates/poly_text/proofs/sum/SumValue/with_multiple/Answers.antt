use Rattle.std.proofs.Common.{sym, ◌∙◌}
use Rattle.poly_text.proofs.RunningSums.{merged}
use Rattle.poly_text.proofs.sum.SumValue.with_multiple.Goals as goal

pub returns : goal.returns
returns c =
    merged c.args.at c.args.factor c.args.self c.args.term _ _ c.in-Ok.sum c.in-Ok-term.term _ _ (sym c.self.view_is ∙ c.in-Ok.is) c.in-Ok-term.is (c.in_ok-poly.ensures ∙ c.in-Ok.sum-is)
    c.in_ok-scaled.ensures c.in_ok-whole.ensures c.of.ensures
