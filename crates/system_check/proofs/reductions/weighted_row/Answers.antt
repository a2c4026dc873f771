use Rattle.std.proofs.Common.{◌-◌, ap, get_or}
use Rattle.std.proofs.lemmas.Result.{IfOk-weaker}
use Rattle.system_text.specs.declared.value.Written.{Written}
use Rattle.system_check.proofs.Reduced.{one_weighed}
use Rattle.system_check.proofs.reductions.weighted_row.Goals as goal

pub returns-clause-sum : goal.returns-clause-sum
returns-clause-sum c =
    let relations = c.args.relations.now in
    let place = c.args.number - 1 in
    let r = get_or relations place c.index-relations-number.result in
    IfOk-weaker c.add_multiple.result _ _
    (λ row same. one_weighed relations c.args.number c.args.weight r c.in_ok-none.none row c.requires.some c.requires.within (ap (λ (s : Written). get_or relations place s) c.index-relations-number.is)
    c.in_ok-none.ensures.sum same)
    c.add_multiple.ensures.sum
