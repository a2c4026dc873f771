use Rattle.std.proofs.Common.{◌≡◌, ℕ, ◌+◌, ◌<◌}
use Rattle.family.specs.FamilyView.{family_view}
use Rattle.symmetry_fold.specs.Symmetries.{IsSymmetry, symmetry_at}
use Rattle.symmetry_fold.proofs.symmetries.first_broken.Given as goal

abbrev pub invariant-loop-entry : goal.invariant-loop-entry
invariant-loop-entry l = (l.number ≡ l.entry-index + 1) × ((place : ℕ) → place < l.entry-index → IsSymmetry (family_view l.family) (symmetry_at (family_view l.family) place))
