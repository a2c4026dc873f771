use Rattle.symmetry_fold.proofs.ImageLaws.{power_moves}
use Rattle.symmetry_fold.proofs.laws.powers_move.Goals as goal

pub returns : goal.returns
returns c = power_moves
