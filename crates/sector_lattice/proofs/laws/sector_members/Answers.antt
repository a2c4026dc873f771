use Rattle.sector_lattice.proofs.Members.{members_positive}
use Rattle.sector_lattice.proofs.laws.sector_members.Goals as goal

pub returns : goal.returns
returns c = members_positive
