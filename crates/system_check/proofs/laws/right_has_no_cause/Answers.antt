use Rattle.system_check.proofs.Causes.{no_cause}
use Rattle.system_check.proofs.laws.right_has_no_cause.Goals as goal

pub returns : goal.returns
returns c = no_cause
