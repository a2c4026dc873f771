use Rattle.std.proofs.Common.{take}
use Rattle.std.specs.List.{All}
use Rattle.family.specs.FamilyView.{family_view}
use Rattle.system_check.specs.Rightness.{IsRightRelation}
use Rattle.system_check.proofs.relations.first_other.Given as goal

abbrev pub invariant-loop-place : goal.invariant-loop-place
invariant-loop-place l = All (IsRightRelation (family_view l.family) l.blocks) (take l.place l.relations)
