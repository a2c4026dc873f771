use Rattle.neat_system.proofs.SomeAnswer.{system_or_fault}
use Rattle.neat_system.proofs.laws.system_or_fault.Goals as goal

pub returns : goal.returns
returns c = system_or_fault
