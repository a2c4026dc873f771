-- What holds after any legal events.
-- Source: textbook invariants of a state machine.
use Rattle.std.specs.Prelude.{◌≡◌, ◌≢◌, ◌⊎◌, ℕ, None, List, [], Contains, length}
use Rattle.std.specs.List.Sorted.{IsStrictlySortedBy}
use Rattle.sector_lattice.specs.declared.integral.Integral.{Integral}
use Rattle.sector_lattice.specs.Sectors.{Ascends, sector_cmp}
use Rattle.relay_core.specs.declared.event.Event.{Event}
use Rattle.relay_core.specs.Family.{TailRelation, Opening, book, IsReached, ComesFrom, MeetsEquation}
use Rattle.relay_core.specs.Relay.{Progress, Run, holder_of, CanBeTaken, AllDone, finishes_in, Replays}

-- The books have the targets of the opening. All else in them is a tail of a sector by its book. They lie within each family
-- that meets the equation.
pub record LieBetween (tails : TailRelation) (targets books : List Integral) : Type 0 where
  pub opening : (integral : Integral) → Contains targets integral → Contains books integral
  pub cause : (integral : Integral) → Contains books integral → Contains targets integral ⊎ ComesFrom tails books integral
  pub family : (family : List Integral) → MeetsEquation tails targets family → (integral : Integral) → Contains books integral → Contains family integral

abbrev pub IsHeldOrDone : ℕ → Progress → Type 0
IsHeldOrDone sector progress = (holder_of sector progress.held ≢ None) ⊎ Contains progress.done sector

-- The sector's book is its book in each family that meets the equation, and no later events change it.
pub record IsFinal (tails : TailRelation) (targets : List Integral) (progress : Progress) (sector : ℕ) : Type 0 where
  pub family : (family : List Integral) → MeetsEquation tails targets family → book sector progress.books ≡ book sector family
  pub later : (events : List Event) (then' : Progress) → Run tails progress events then' → book sector then'.books ≡ book sector progress.books

-- a sector can be taken, or one is held, or each reached one is done
abbrev pub GoesOn : Progress → Type 0
GoesOn progress = ((sector : ℕ) × CanBeTaken sector progress) ⊎ (progress.held ≢ []) ⊎ AllDone progress

-- the journal is legal from what a plan opens with, and the state is where it leads
abbrev pub ReplaysPlan : TailRelation → Opening → List Event → Progress → Type 0
ReplaysPlan tails opening journal progress = Replays tails opening.targets journal progress

-- What holds where a journal leads. The books lie between the opening's and the plan's, and ascend through integrals of the
-- opening's number of powers. The book of a sector that is held or done is final and not empty. The done sectors ascend, and
-- are as many as finishes were entered. The relay goes on until each reached sector is done, and then the books are the plan's.
pub record HoldsAfter (tails : TailRelation) (opening : Opening) (journal : List Event) (progress : Progress) : Type 0 where
  pub between : LieBetween tails opening.targets progress.books
  pub ascend : Ascends progress.books
  pub powers : (integral : Integral) → Contains progress.books integral → length integral ≡ opening.n
  pub settled : (sector : ℕ) → IsHeldOrDone sector progress → IsFinal tails opening.targets progress sector
  pub reached : (sector : ℕ) → IsHeldOrDone sector progress → IsReached sector progress.books
  pub ordered : IsStrictlySortedBy sector_cmp progress.done
  pub finished : finishes_in journal ≡ length progress.done
  pub goes_on : GoesOn progress
  pub whole : AllDone progress → MeetsEquation tails opening.targets progress.books
