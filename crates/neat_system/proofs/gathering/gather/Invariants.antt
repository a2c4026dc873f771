use Rattle.std.proofs.Common.{take}
use Rattle.neat_system.specs.Gathering.{Gathers}
use Rattle.neat_system.proofs.gathering.gather.Given as goal

abbrev pub invariant-loop-piece : goal.invariant-loop-piece
invariant-loop-piece l = Gathers (take l.piece-index l.pieces) l.gathered
