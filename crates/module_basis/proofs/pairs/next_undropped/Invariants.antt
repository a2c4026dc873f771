use Rattle.std.proofs.Common.{◌≡◌, length}
use Rattle.module_basis.specs.PlainRun.{undropped}
use Rattle.module_basis.proofs.pairs.next_undropped.Given as goal

abbrev pub invariant-pairs : goal.invariant-pairs
invariant-pairs g l = (l.pairs.by ≡ l.fn.pairs.by) × (undropped l.elements l.pairs.pairs ≡ undropped l.elements l.fn.pairs.pairs)

abbrev pub decreases-pairs : goal.decreases-pairs
decreases-pairs g l = length l.pairs.pairs
