use Rattle.std.proofs.Common.{◌≡◌, take}
use Rattle.std.specs.Prelude.{map}
use Rattle.symmetry_fold.specs.Folding.{folded_at}
use Rattle.symmetry_fold.proofs.folding.relations_at.Given as goal

abbrev pub invariant-loop-place : goal.invariant-loop-place
invariant-loop-place l = l.kept.items ≡ map (folded_at l.entries l.relations) (take l.place-index l.places)
