use Rattle.std.proofs.Common.{take}
use Rattle.std.specs.List.{All}
use Rattle.family.specs.FamilyView.{family_view}
use Rattle.system_check.specs.Rightness.{IsRightReduction}
use Rattle.system_check.proofs.reductions.first_unreduced.Given as goal

abbrev pub invariant-loop-place : goal.invariant-loop-place
invariant-loop-place l = All (IsRightReduction (family_view l.family) l.relations) (take l.place l.reductions)
