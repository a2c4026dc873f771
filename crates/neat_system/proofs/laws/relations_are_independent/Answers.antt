use Rattle.neat_system.proofs.SystemRows.{is_independent}
use Rattle.neat_system.proofs.laws.relations_are_independent.Goals as goal

pub returns : goal.returns
returns c = λ family system is. is_independent family system is
