use Rattle.symmetry_fold.proofs.OneFold.{one_fold}
use Rattle.symmetry_fold.proofs.laws.one_fold.Goals as goal

pub returns : goal.returns
returns c = one_fold
