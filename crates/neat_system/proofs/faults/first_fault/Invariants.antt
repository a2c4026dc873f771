use Rattle.std.proofs.Common.{ℕ, ◌<◌, get_or}
use Rattle.sector_job.specs.Results.{ResultValue}
use Rattle.neat_system.specs.Gathering.{IsWorkedPiece}
use Rattle.neat_system.proofs.faults.first_fault.Given as goal

abbrev pub invariant-loop-piece : goal.invariant-loop-piece
invariant-loop-piece l = (k : ℕ) (d : ResultValue) → k < l.piece-index → IsWorkedPiece (get_or l.pieces k d)
