use Rattle.symmetry_fold.proofs.FirstBroken.{one_broken}
use Rattle.symmetry_fold.proofs.laws.one_broken.Goals as goal

pub returns : goal.returns
returns c = one_broken
