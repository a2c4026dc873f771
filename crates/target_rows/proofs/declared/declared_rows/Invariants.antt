use Rattle.std.proofs.Common.{◌≡◌, take}
use Rattle.std.specs.Prelude.{map}
use Rattle.family.specs.FamilyView.{family_view}
use Rattle.target_rows.specs.Reductions.{declared_row}
use Rattle.target_rows.proofs.declared.declared_rows.Given as goal

abbrev pub invariant-loop-target : goal.invariant-loop-target
invariant-loop-target l = l.rows.items ≡ map (declared_row (family_view l.family)) (take l.target-index l.target-items)
