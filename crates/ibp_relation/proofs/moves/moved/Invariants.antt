use Rattle.ibp_algebra.specs.Laurent.{add_powers}
use Rattle.ibp_relation.proofs.Powers.{WrittenBelow}
use Rattle.ibp_relation.proofs.moves.moved.Given as goal

abbrev pub invariant-loop-place : goal.invariant-loop-place
invariant-loop-place l = WrittenBelow (add_powers l.seed l.offset) l.place l.powers
