use Rattle.system_check.proofs.OneValue.{one_value}
use Rattle.system_check.proofs.laws.one_value.Goals as goal

pub returns : goal.returns
returns c = one_value
