use Rattle.neat_system.proofs.SystemRelations.{no_power_rises}
use Rattle.neat_system.proofs.laws.no_power_rises.Goals as goal

pub returns : goal.returns
returns c = λ family system within is. no_power_rises family within system is
