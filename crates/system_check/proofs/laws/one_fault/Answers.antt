use Rattle.system_check.proofs.OneFault.{one_fault}
use Rattle.system_check.proofs.laws.one_fault.Goals as goal

pub returns : goal.returns
returns c = one_fault
