use Rattle.neat_system.proofs.OneSystem.{one_system}
use Rattle.neat_system.proofs.laws.one_system.Goals as goal

pub returns : goal.returns
returns c = λ family first second within one two. one_system family within first second one two
