use Rattle.std.proofs.Common.{◌≢◌}
use Rattle.std.specs.List.{AllWithin}
use Rattle.sector_job.specs.Results.{ResultValue}
use Rattle.neat_workers.proofs.entry.is_done.Given as goal

abbrev pub invariant-loop-piece : goal.invariant-loop-piece
invariant-loop-piece l = AllWithin (λ (piece : ResultValue). piece.sector.0 ≢ l.sector.0) l.pieces 0 l.piece-index
