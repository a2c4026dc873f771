use Rattle.row_echelon.proofs.Inserting.{kept_span_inserted}
use Rattle.row_echelon.proofs.laws.kept_span_inserted.Goals as goal

pub returns : goal.returns
returns c = kept_span_inserted
