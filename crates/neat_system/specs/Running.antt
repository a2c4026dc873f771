-- A relay whose sectors are worked one after another.
--     IsUnderWay       the relay of this family is the replay of its journal, and no sector is held
--     Advances         one more sector is done
--     Continues        a journal goes on from another, which is its front
-- Source: sectors worked from the larger to the smaller as in Laporta's algorithm.
use Rattle.std.specs.Prelude.{◌≡◌, ◌+◌, List, [], ◌++◌, length}
use Rattle.family.specs.declared.family.Family.{Family}
use Rattle.relay_core.specs.Relay.{Replays}
use Rattle.relay_core.specs.declared.event.Event.{Event}
use Rattle.relay_core.specs.State.{Relay}
use Rattle.sector_job.specs.Results.{ResultValue, opening_of, tails_of_plan}

pub record IsUnderWay (plan : Family) (relay : Relay Family ResultValue) : Type 0 where
  pub plan_is : relay.plan ≡ plan
  pub powers : relay.n ≡ plan.n
  pub replays : Replays (tails_of_plan plan) (opening_of plan).targets relay.journal relay.progress
  pub free : relay.progress.held ≡ []

pub record Advances (plan : Family) (old new : Relay Family ResultValue) : Type 0 where
  pub under_way : IsUnderWay plan new
  pub one_more : length new.progress.done ≡ length old.progress.done + 1

-- the journal is the old one and what came later
abbrev pub Continues : List Event → List Event → Type 0
Continues old new = (later : List Event) × (new ≡ old ++ later)
