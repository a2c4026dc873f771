use Rattle.poly_text.proofs.RunningSums.{sum_is_multiple}
use Rattle.poly_text.proofs.sum.SumValue.plus.Goals as goal

pub returns : goal.returns
returns c = sum_is_multiple c.args.at c.args.self c.args.term _ _ c.one.ensures c.with_multiple.ensures
