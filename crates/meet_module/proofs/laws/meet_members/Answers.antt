use Rattle.meet_module.proofs.MeetLaws.{meet_members}
use Rattle.meet_module.proofs.laws.meet_members.Goals as goal

pub returns : goal.returns
returns c = λ p n degree sector tangent few small shape basis v h. meet_members p n sector few shape.variables small tangent basis v h
