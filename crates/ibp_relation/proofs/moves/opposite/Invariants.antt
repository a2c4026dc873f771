use Rattle.ibp_algebra.specs.Identity.{negated}
use Rattle.ibp_relation.specs.Shifts.{powers_of}
use Rattle.ibp_relation.proofs.Powers.{WrittenBelow}
use Rattle.ibp_relation.proofs.moves.opposite.Given as goal

abbrev pub invariant-loop-place : goal.invariant-loop-place
invariant-loop-place l = WrittenBelow (negated (powers_of l.n l.monomial)) l.place l.powers
