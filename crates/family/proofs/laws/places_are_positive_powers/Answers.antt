use Rattle.family.proofs.Places.{in_sector-sector_of}
use Rattle.family.proofs.laws.places_are_positive_powers.Goals as goal

pub returns : goal.returns
returns c = in_sector-sector_of
