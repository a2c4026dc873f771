use Rattle.top_call.proofs.SystemWords.{asks_for}
use Rattle.top_call.proofs.laws.system_asks_for_workers.Goals as goal

pub returns : goal.returns
returns c = asks_for
