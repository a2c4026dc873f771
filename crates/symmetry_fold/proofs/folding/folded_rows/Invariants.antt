use Rattle.std.proofs.Common.{◌≡◌, take}
use Rattle.symmetry_fold.specs.Folding.{folded_rows}
use Rattle.symmetry_fold.proofs.folding.folded_rows.Given as goal

abbrev pub invariant-loop-relation : goal.invariant-loop-relation
invariant-loop-relation l = l.rows.items ≡ folded_rows l.entries (take l.relation-index l.relations)
