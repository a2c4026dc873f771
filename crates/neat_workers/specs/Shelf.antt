-- Which bases are wanted ahead, and which are handed out.
-- Our own: a basis asks for no targets, and a sector that targets have reached has to be worked in any case.
use Rattle.std.specs.Prelude.{◌≡◌, Option, None, Some, Contains}
use Rattle.relay_core.specs.Family.{IsReached}
use Rattle.relay_core.specs.Relay.{Progress, holder_of}
use Rattle.sector_job.specs.Ahead.{AheadValue}
use Rattle.neat_workers.specs.declared.entry.Entry.{Entry}
use Rattle.neat_workers.specs.declared.entry.Stand.{Stand}
use Rattle.neat_workers.specs.declared.entry.Stand.TheVariants.{Open, Begun, Ready, Gone}

-- nobody has begun the basis, the sector is reached, and it is neither held nor done
pub record IsWanted (entry : Entry) (progress : Progress) : Type 0 where
  pub unbegun : entry.stand ≡ Open
  pub reached : IsReached entry.sector.0 progress.books
  pub free : holder_of entry.sector.0 progress.held ≡ None
  pub undone : ¬ Contains progress.done entry.sector.0

-- the basis that is ready
abbrev pub ready_in : Stand → Option AheadValue
ready_in Open = None
ready_in Begun = None
ready_in (Ready basis) = Some basis
ready_in Gone = None
