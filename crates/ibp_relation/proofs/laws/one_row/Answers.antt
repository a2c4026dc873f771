use Rattle.ibp_relation.proofs.Outcomes.{one_row}
use Rattle.ibp_relation.proofs.laws.one_row.Goals as goal

pub returns : goal.returns
returns c = one_row
