use Rattle.std.proofs.Common.{map}
use Rattle.ibp_field.specs.Arithmetic.{int_mod}
use Rattle.ibp_relation.proofs.Powers.{WrittenBelow}
use Rattle.ibp_relation.proofs.moves.residues.Given as goal

abbrev pub invariant-loop-place : goal.invariant-loop-place
invariant-loop-place l = WrittenBelow (map int_mod l.seed) l.place l.residues
