use Rattle.right_systems.proofs.SystemRight.{is_right}
use Rattle.right_systems.proofs.laws.a_system_is_right.Goals as goal

pub returns : goal.returns
returns c = λ family system within is. is_right family within system is
