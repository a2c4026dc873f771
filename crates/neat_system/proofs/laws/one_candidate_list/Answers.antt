use Rattle.neat_system.proofs.SystemRows.{one_candidate_list}
use Rattle.neat_system.proofs.laws.one_candidate_list.Goals as goal

pub returns : goal.returns
returns c = one_candidate_list
