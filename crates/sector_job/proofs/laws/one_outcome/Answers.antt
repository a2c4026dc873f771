use Rattle.sector_job.specs.OneOutcome.{one_outcome}
use Rattle.sector_job.proofs.laws.one_outcome.Goals as goal

pub returns : goal.returns
returns c = λ family sector targets first second limits h k. one_outcome family limits sector targets first second h k
