use Rattle.neat_system.proofs.OneSystem.{never_both}
use Rattle.neat_system.proofs.laws.never_both.Goals as goal

pub returns : goal.returns
returns c = λ family system sector outcome within fault is. never_both family within system sector outcome fault is
