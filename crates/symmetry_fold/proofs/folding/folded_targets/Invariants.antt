use Rattle.std.proofs.Common.{◌≡◌, take}
use Rattle.std.specs.Prelude.{map}
use Rattle.family.specs.FamilyView.{family_view}
use Rattle.symmetry_fold.specs.Folding.{folded_target}
use Rattle.symmetry_fold.proofs.folding.folded_targets.Given as goal

abbrev pub invariant-loop-target : goal.invariant-loop-target
invariant-loop-target l = l.rows.items ≡ map (folded_target (family_view l.family)) (take l.target-index l.targets)
