use Rattle.std.proofs.Common.{length}
use Rattle.relation_pick.specs.Kept.{AnswersBy}
use Rattle.relation_pick.proofs.Pieces.{front}
use Rattle.relation_pick.proofs.wide.reduce_at_once.Given as goal

abbrev pub invariant-loop-piece : goal.invariant-loop-piece
invariant-loop-piece g l = AnswersBy l.echelon (front l.targets l.size (length l.yielded)) l.reductions.items l.weights.items
