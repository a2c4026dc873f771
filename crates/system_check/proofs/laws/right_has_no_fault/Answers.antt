use Rattle.system_check.proofs.OneFault.{right_has_no_fault}
use Rattle.system_check.proofs.laws.right_has_no_fault.Goals as goal

pub returns : goal.returns
returns c = right_has_no_fault
