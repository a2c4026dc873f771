use Rattle.right_systems.proofs.SystemValue.{is_value}
use Rattle.right_systems.proofs.laws.a_system_is_a_value.Goals as goal

pub returns : goal.returns
returns c = λ family system within named is. is_value family within system is named
