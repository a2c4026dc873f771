use Rattle.std.proofs.Common.{◌≡◌, length}
use Rattle.relation_pick.proofs.Marking.{MarksNamed}
use Rattle.relation_pick.proofs.marks.named_places.Given as goal

abbrev pub invariant-loop-weights : goal.invariant-loop-weights
invariant-loop-weights l = MarksNamed l.all l.weights-index l.marks.items × (length l.marks.items ≡ l.count)
