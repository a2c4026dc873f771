use Rattle.std.proofs.Common.{take}
use Rattle.relation_pick.specs.Kept.{AnswersBy}
use Rattle.relation_pick.proofs.picking.reduce_each.Given as goal

abbrev pub invariant-loop-target : goal.invariant-loop-target
invariant-loop-target l = AnswersBy l.echelon (take l.target-index l.targets) l.reductions.items l.weights.items
