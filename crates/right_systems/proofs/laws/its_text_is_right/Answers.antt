use Rattle.std.proofs.Common.{refl}
use Rattle.right_systems.proofs.SystemRight.{is_right}
use Rattle.right_systems.proofs.SystemValue.{is_value}
use Rattle.right_systems.proofs.laws.its_text_is_right.Goals as goal

pub returns : goal.returns
returns c = λ family system within named is short. record {
  short = short;
  system = system;
  value = is_value family within system is named;
  text = refl;
  right = is_right family within system is;
}
