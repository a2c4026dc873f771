use Rattle.meet_module.proofs.MeetLaws.{stripped_members}
use Rattle.meet_module.proofs.laws.stripped_members.Goals as goal

pub returns : goal.returns
returns c = λ p n degree sector list few small shape basis v h. stripped_members p n sector few shape.variables small list basis v h
