use Rattle.std.proofs.lemmas.Result.{IfOk-weaker}
use Rattle.system_check.proofs.Reduced.{halves}
use Rattle.system_check.proofs.reductions.+weighted_sum.Goals as goal

pub returns-in_ok-second-in_default-clause-sum : goal.returns-in_ok-second-in_default-clause-sum
returns-in_ok-second-in_default-clause-sum t c =
    IfOk-weaker c.add_multiple.result _ _
    (λ row same. halves c.args.relations.now c.args.weights.now c.split_at.result.0.now c.split_at.result.1.now _ c.one.result c.in_ok-first-in_default.first c.in_ok-second-in_default.second row
    c.split_at.ensures.front c.split_at.ensures.back c.one.ensures c.in_ok-first-in_default.ensures.sum c.in_ok-second-in_default.ensures.sum same)
    c.add_multiple.ensures.sum
