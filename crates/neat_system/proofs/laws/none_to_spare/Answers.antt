use Rattle.neat_system.proofs.SystemRows.{none_to_spare}
use Rattle.neat_system.proofs.laws.none_to_spare.Goals as goal

pub returns : goal.returns
returns c = λ family system is. none_to_spare family system is
