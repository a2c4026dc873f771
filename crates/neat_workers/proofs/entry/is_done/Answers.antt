use Rattle.std.proofs.Common.{◌≢◌, arith}
use Rattle.ibp_base.proofs.Members.{from_map, everywhere}
use Rattle.sector_job.specs.Results.{ResultValue}
use Rattle.neat_workers.proofs.entry.is_done.Goals as goal

pub returns : goal.returns
returns c = (
  λ never. absurd (cc),
  λ inside.
      let found = from_map (λ (piece : ResultValue). piece.sector.0) c.args.pieces.now c.args.sector.0 inside in
      absurd (everywhere (λ (piece : ResultValue). piece.sector.0 ≢ c.args.sector.0) c.args.pieces.now c.loop-piece.piece-index c.loop-piece.invariant (omega arith) found.0 found.1.0 found.1.1),
)
