-- What a worker's calls leave of its seat.
-- Our own: a share of a ledger keeps its parts, so that all seats together still have all of them.
use Rattle.std.specs.Prelude.{◌≡◌}
use Rattle.relay_desk.specs.Desk.{Place}

pub record KeepsParts (old new : Place) : Type 0 where
  pub finish_parts : new.finish_parts ≡ old.finish_parts
  pub closing_parts : new.closing_parts ≡ old.closing_parts
