use Rattle.neat_system.proofs.SystemRelations.{are_identities}
use Rattle.neat_system.proofs.laws.relations_are_identities.Goals as goal

pub returns : goal.returns
returns c = λ family system within is. are_identities family within system is
