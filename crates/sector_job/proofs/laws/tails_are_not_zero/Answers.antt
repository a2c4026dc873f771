use Rattle.sector_job.proofs.TailsNotZero.{tails_not_zero}
use Rattle.sector_job.proofs.laws.tails_are_not_zero.Goals as goal

pub returns : goal.returns
returns c = λ family sector targets outcome integral fits h inside. tails_not_zero family sector targets outcome fits h integral inside
