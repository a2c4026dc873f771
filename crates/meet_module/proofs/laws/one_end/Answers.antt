use Rattle.meet_module.proofs.OneEnd.{one_end}
use Rattle.meet_module.proofs.laws.one_end.Goals as goal

pub returns : goal.returns
returns c = λ p n degree sector budget tangent first second few small shape h k. one_end p n sector few shape.variables small budget tangent first second h k
