use Rattle.system_check.proofs.Causes.{one_cause}
use Rattle.system_check.proofs.laws.one_cause.Goals as goal

pub returns : goal.returns
returns c = one_cause
