use Rattle.std.proofs.Common.{take}
use Rattle.std.specs.List.{All}
use Rattle.family.specs.FamilyView.{family_view}
use Rattle.system_check.specs.Rightness.{IsRightBlock}
use Rattle.system_check.proofs.blocks.first_outside.Given as goal

abbrev pub invariant-loop-block : goal.invariant-loop-block
invariant-loop-block l = All (IsRightBlock (family_view l.family)) (take l.block-index l.blocks)
