-- The relay as a machine over events. A list of events is replayed from an opening state.
-- Source: textbook state machines, whose state is the replay of a list of events.
use Rattle.std.specs.Prelude.{◌≡◌, ◌≢◌, ℕ, ◌≤◌, ◌==◌, not, if◌then◌else◌, Option, None, Some, List, [], ◌∷◌, ◌++◌, Contains, Bool, true, false, count_by, filter, length, slice_range}
use Rattle.std.specs.declared.cmp.Ordering.TheVariants.{Less}
use Rattle.sector_lattice.specs.declared.integral.Integral.{Integral}
use Rattle.sector_lattice.specs.Sectors.{IsProperSubsector, sector_cmp, integral_cmp}
use Rattle.relay_core.specs.declared.event.Event.{Event}
use Rattle.relay_core.specs.declared.event.Event.TheVariants.{Take, Post, Finish, GiveBack}
use Rattle.relay_core.specs.declared.event.Holding.{Holding}
use Rattle.relay_core.specs.Family.{TailRelation, book, IsReached, Adds}

-- The books as one family, the sectors that are held, the latest taken last, and the sectors that are done, in sector order.
pub record Progress : Type 0 where
  pub books : List Integral
  pub held : List Holding
  pub done : List ℕ

-- the worker that holds the sector
abbrev pub holder_of : ℕ → List Holding → Option ℕ
holder_of sector [] = None
holder_of sector (holding ∷ held) = if holding.sector.0 == sector then Some holding.worker else holder_of sector held

abbrev pub IsHeldBy : ℕ → ℕ → Progress → Type 0
IsHeldBy worker sector progress = holder_of sector progress.held ≡ Some worker

abbrev pub without : ℕ → List Holding → List Holding
without sector held = filter (λ holding. not (holding.sector.0 == sector)) held

-- the sector is reached, is neither held nor done, and what is reached above it is done
pub record CanBeTaken (sector : ℕ) (progress : Progress) : Type 0 where
  pub reached : IsReached sector progress.books
  pub free : holder_of sector progress.held ≡ None
  pub undone : ¬ Contains progress.done sector
  pub above : (outer : ℕ) → IsProperSubsector sector outer → IsReached outer progress.books → Contains progress.done outer

-- the first in sector order
pub record IsNext (sector : ℕ) (progress : Progress) : Type 0 where
  pub can : CanBeTaken sector progress
  pub first : (other : ℕ) → CanBeTaken other progress → other ≢ sector → sector_cmp sector other ≡ Less

abbrev pub AllDone : Progress → Type 0
AllDone progress = (sector : ℕ) → IsReached sector progress.books → Contains progress.done sector

-- The tails from a place on, up to an end, go into the books.
pub record Posts (tails : TailRelation) (old : Progress) (worker sector first end : ℕ) (new : Progress) : Type 0 where
  pub held : IsHeldBy worker sector old
  pub all : List Integral
  pub named : tails sector (book sector old.books) all
  pub ordered : first ≤ end
  pub within : end ≤ length all
  pub posted : Adds integral_cmp old.books (slice_range all first end) new.books
  pub same_held : new.held ≡ old.held
  pub same_done : new.done ≡ old.done

-- All tails go into the books, and the sector is done.
pub record Finishes (tails : TailRelation) (old : Progress) (worker sector : ℕ) (new : Progress) : Type 0 where
  pub held : IsHeldBy worker sector old
  pub all : List Integral
  pub named : tails sector (book sector old.books) all
  pub posted : Adds integral_cmp old.books all new.books
  pub freed : new.held ≡ without sector old.held
  pub done : Adds sector_cmp old.done (sector ∷ []) new.done

-- The event may happen in the old state, and leads to the new one.
abbrev pub Leads : TailRelation → Progress → Event → Progress → Type 0
Leads tails old (Take worker sector) new = IsNext sector.0 old × (new ≡ record { books = old.books; held = old.held ++ record { sector = sector; worker = worker } ∷ []; done = old.done })
Leads tails old (Post worker sector first end) new = Posts tails old worker sector.0 first end new
Leads tails old (Finish worker sector) new = Finishes tails old worker sector.0 new
Leads tails old (GiveBack worker sector) new = IsHeldBy worker sector.0 old × (new ≡ record { books = old.books; held = without sector.0 old.held; done = old.done })

-- These events may happen one after another, and lead from the old state to the new one.
abbrev pub Run : TailRelation → Progress → List Event → Progress → Type 0
Run tails old [] new = new ≡ old
Run tails old (event ∷ events) new = (next : Progress) × Leads tails old event next × Run tails next events new

abbrev pub is_finish : Event → Bool
is_finish (Take worker sector) = false
is_finish (Post worker sector first end) = false
is_finish (Finish worker sector) = true
is_finish (GiveBack worker sector) = false

abbrev pub finishes_in : List Event → ℕ
finishes_in journal = count_by is_finish journal

-- a state with these targets in its books, and nothing held or done
pub record Opens (targets : List Integral) (progress : Progress) : Type 0 where
  pub books : Adds integral_cmp [] targets progress.books
  pub free : progress.held ≡ []
  pub undone : progress.done ≡ []

-- The journal is legal from the opening with these targets, and the state is where it leads.
pub record Replays (tails : TailRelation) (targets : List Integral) (journal : List Event) (progress : Progress) : Type 0 where
  pub start : Progress
  pub opens : Opens targets start
  pub runs : Run tails start journal progress
