use Rattle.std.proofs.Common.{ap}
use Rattle.std.specs.Option.{is_some}
use Rattle.symmetry_fold.proofs.folding.fold.Goals as goal

pub returns-clause-symmetric : goal.returns-clause-symmetric
returns-clause-symmetric c = c.in_ok-number.ensures.none.0 (ap is_some c.in_default.is)
