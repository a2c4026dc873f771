use Rattle.symmetry_fold.proofs.ImageLaws.{lowest_among, lowest_least}
use Rattle.symmetry_fold.proofs.laws.lowest_is_least.Goals as goal

pub returns-clause-one : goal.returns-clause-one
returns-clause-one c = lowest_among

pub returns-clause-least : goal.returns-clause-least
returns-clause-least c = lowest_least
