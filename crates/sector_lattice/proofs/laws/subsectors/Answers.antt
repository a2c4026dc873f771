use Rattle.sector_lattice.specs.Orders.{shared_digits, from_shared_digits, proper_below, proper_trans}
use Rattle.sector_lattice.proofs.laws.subsectors.Goals as goal

pub returns-clause-digits : goal.returns-clause-digits
returns-clause-digits c = λ inner outer. (shared_digits inner outer, from_shared_digits inner outer)

pub returns-clause-lesser : goal.returns-clause-lesser
returns-clause-lesser c = proper_below

pub returns-clause-transitive : goal.returns-clause-transitive
returns-clause-transitive c = proper_trans
