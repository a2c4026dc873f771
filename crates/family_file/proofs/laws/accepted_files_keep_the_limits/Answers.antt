use Rattle.family_file.proofs.FamilyLimits.{accepted_within, accepted_needs}
use Rattle.family_file.proofs.laws.accepted_files_keep_the_limits.Goals as goal

pub returns-clause-limits : goal.returns-clause-limits
returns-clause-limits c = accepted_within

pub returns-clause-needs : goal.returns-clause-needs
returns-clause-needs c = accepted_needs
