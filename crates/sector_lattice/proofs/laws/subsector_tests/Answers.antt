use Rattle.sector_lattice.proofs.Listed.{subsector_decides, listed_test}
use Rattle.sector_lattice.proofs.laws.subsector_tests.Goals as goal

pub returns-clause-one : goal.returns-clause-one
returns-clause-one c = subsector_decides

pub returns-clause-listed : goal.returns-clause-listed
returns-clause-listed c = listed_test
