use Rattle.poly_text.proofs.Spelling.{long_unknown}
use Rattle.poly_text.proofs.laws.long_names_are_unknown.Goals as goal

pub returns : goal.returns
returns c = long_unknown
