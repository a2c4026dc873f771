use Rattle.relay_core.proofs.LastEvent.{replays_none, replays_one_more}
use Rattle.relay_core.proofs.laws.by_the_last_event.Goals as goal

pub returns-clause-none : goal.returns-clause-none
returns-clause-none g c = λ plan progress. replays_none (g.W.Piece.are_tails plan) (g.W.Piece.opening plan).targets progress

pub returns-clause-one_more : goal.returns-clause-one_more
returns-clause-one_more g c = λ plan journal event new. replays_one_more (g.W.Piece.are_tails plan) (g.W.Piece.opening plan).targets journal event new
