use Rattle.system_check.proofs.Causes.{one_bad_line}
use Rattle.system_check.proofs.laws.one_bad_line.Goals as goal

pub returns : goal.returns
returns c = one_bad_line
