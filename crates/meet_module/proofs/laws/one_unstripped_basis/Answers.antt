use Rattle.meet_module.proofs.DividedSyzygies.{one_unstripped}
use Rattle.meet_module.proofs.laws.one_unstripped_basis.Goals as goal

pub returns : goal.returns
returns c = λ p n degree sector first second few small shape h k. one_unstripped p n sector few shape.variables small first second h k
