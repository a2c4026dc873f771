use Rattle.std.proofs.Common.{◌∙◌}
use Rattle.poly_text.proofs.RunningSums.{no_others, poly_of_entries}
use Rattle.poly_text.proofs.running_sum.RunningSum.poly.Goals as goal

pub returns-then-is_empty : goal.returns-then-is_empty
returns-then-is_empty c = no_others c.self.inside.first c.self.inside.others.entries c.args.self _ c.self.view_is c.self.invariant.first c.is_empty.ensures c.if-is_empty.true

pub returns : goal.returns
returns c =
    poly_of_entries c.added.result c.self.inside.first c.args.self c.self.inside.others.entries _ _ c.self.view_is (c.deref.ensures.value ∙ c.in_ok-terms_in.ensures) c.in_ok-others.ensures.sum
    c.added.ensures
