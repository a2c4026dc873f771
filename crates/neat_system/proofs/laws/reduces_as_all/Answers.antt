use Rattle.neat_system.proofs.SystemRows.{reduces_as_all}
use Rattle.neat_system.proofs.laws.reduces_as_all.Goals as goal

pub returns : goal.returns
returns c = λ family system is. reduces_as_all family system is
