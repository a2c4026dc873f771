use Rattle.neat_system.proofs.OneSystem.{one_fault}
use Rattle.neat_system.proofs.laws.one_fault.Goals as goal

pub returns : goal.returns
returns c = λ family first second outcome other within one two. one_fault family within first second outcome other one two
