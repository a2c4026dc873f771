use Rattle.std.proofs.Common.{take}
use Rattle.std.specs.List.{All}
use Rattle.family.specs.FamilyView.{family_view}
use Rattle.system_check.specs.Rightness.{IsRightField}
use Rattle.system_check.proofs.blocks.first_in_block.Given as goal

abbrev pub invariant-loop-place : goal.invariant-loop-place
invariant-loop-place l = All (IsRightField (family_view l.family) l.sector) (take l.place l.fields)
