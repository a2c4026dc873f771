-- A worker's seat, and the relay under the lock, as callers see them.
use Rattle.std.specs.Prelude.{◌≡◌, ℕ, List, sum_by}
use Rattle.relay_core.specs.State.{Relay}

-- A worker's number, and the amount and the parts of its share of each ledger.
pub record Place : Type 0 where
  pub worker : ℕ
  pub finishes : ℕ
  pub finish_parts : ℕ
  pub closings : ℕ
  pub closing_parts : ℕ

-- the relay, and the totals of the two ledgers
pub record Counted (P W : Type 0) : Type 0 where
  pub relay : Relay P W
  pub finishes : ℕ
  pub closings : ℕ

-- the place of a worker who has done nothing yet, with one part of each ledger
abbrev pub new_place : ℕ → Place
new_place worker = record { worker = worker; finishes = 0; finish_parts = 1; closings = 0; closing_parts = 1 }

-- The places have all parts of both ledgers.
pub record HaveAll (places : List Place) (finish_parts closing_parts : ℕ) : Type 0 where
  pub finishes : sum_by (λ place. place.finish_parts) places ≡ finish_parts
  pub closings : sum_by (λ place. place.closing_parts) places ≡ closing_parts
