-- A relay as its callers see it, and what its calls do.
-- Source: textbook state machines, whose calls are their steps.
use Rattle.std.specs.Prelude.{◌≡◌, ◌≢◌, ◌⊎◌, ℕ, ◌≤◌, Bool, true, false, Result, Ok, Err, List, [], ◌∷◌, ◌++◌, map, Contains, length, insert, slice_range, ◌<◌}
use Rattle.sector_lattice.specs.declared.integral.Integral.{Integral}
use Rattle.relay_core.specs.declared.event.Event.{Event}
use Rattle.relay_core.specs.declared.event.Event.TheVariants.{Take, Post, Finish}
use Rattle.relay_core.specs.declared.event.Holding.{Holding}
use Rattle.sector_lattice.specs.Sectors.{integral_cmp}
use Rattle.relay_core.specs.declared.faults.PostFault.{PostFault}
use Rattle.relay_core.specs.declared.faults.PostFault.TheVariants as post
use Rattle.relay_core.specs.declared.faults.FinishFault.{FinishFault}
use Rattle.relay_core.specs.declared.faults.FinishFault.TheVariants as fault
use Rattle.relay_core.specs.declared.job.Taken.{Taken}
use Rattle.relay_core.specs.declared.job.Taken.TheVariants.{Job, NotYet, Closed}
use Rattle.relay_core.specs.Family.{TailRelation, Opening, Adds, book}
use Rattle.relay_core.specs.Facts.{IsFinal}
use Rattle.relay_core.specs.Relay.{Progress, IsHeldBy, CanBeTaken, AllDone, Leads, Replays}

pub record Relay (P W : Type 0) : Type 0 where
  pub plan : P
  pub n : ℕ
  pub progress : Progress
  pub pieces : List W
  pub journal : List Event

-- The sectors of the pieces are those that are done.
abbrev pub seen : {P W : Type 0} → (W → ℕ) → P → ℕ → List Integral → List Holding → List W → List Event → Relay P W
seen sector plan n books held pieces journal = record {
  plan = plan;
  n = n;
  progress = record { books = books; held = held; done = map sector pieces };
  pieces = pieces;
  journal = journal;
}

-- The state is the replay of the journal. The pieces are of the relay's plan, and each has the book of its sector for its targets.
pub record IsKept {P W : Type 0} (opening : P → Opening) (tails : P → TailRelation) (same : P → P → Bool) (plan : W → P) (sector : W → ℕ) (targets : W → List Integral) (relay : Relay P W) : Type 0 where
  pub powers : relay.n ≡ (opening relay.plan).n
  pub replays : Replays (tails relay.plan) (opening relay.plan).targets relay.journal relay.progress
  pub plans : (piece : W) → Contains relay.pieces piece → same (plan piece) relay.plan ≡ true
  pub books : (piece : W) → Contains relay.pieces piece → targets piece ≡ book (sector piece) relay.progress.books

-- The event leads from the old relay to the new one, and is entered into the journal.
pub record Moves {P W : Type 0} (tails : P → TailRelation) (old : Relay P W) (event : Event) (new : Relay P W) : Type 0 where
  pub plan : new.plan ≡ old.plan
  pub n : new.n ≡ old.n
  pub leads : Leads (tails old.plan) old.progress event new.progress
  pub journal : new.journal ≡ old.journal ++ event ∷ []

-- what a take answers
abbrev pub Takes : {P W : Type 0} → (P → TailRelation) → ℕ → Relay P W → Taken → Relay P W → Type 0
Takes tails worker old (Job job) new = Moves tails old (Take worker job.sector) new × (new.pieces ≡ old.pieces) × (job.worker ≡ worker) × (job.targets ≡ book job.sector.0 old.progress.books)
Takes tails worker old NotYet new = ((sector : ℕ) → ¬ CanBeTaken sector old.progress) × (old.progress.held ≢ []) × (¬ AllDone old.progress) × (new ≡ old)
Takes tails worker old Closed new = AllDone old.progress × (new ≡ old)

-- the book of a sector that is handed out is final
abbrev pub HandsOutFinal : {P W : Type 0} → (P → TailRelation) → (P → Opening) → Taken → Relay P W → Type 0
HandsOutFinal tails opening (Job job) relay = IsFinal (tails relay.plan) (opening relay.plan).targets relay.progress job.sector.0
HandsOutFinal tails opening NotYet relay = Unit {0}
HandsOutFinal tails opening Closed relay = Unit {0}

-- the targets that are handed out have n powers
abbrev pub HandsOutPowers : ℕ → Taken → Type 0
HandsOutPowers n (Job job) = (integral : Integral) → Contains job.targets integral → length integral ≡ n
HandsOutPowers n NotYet = Unit {0}
HandsOutPowers n Closed = Unit {0}

-- the piece is of another plan, or for other targets than the sector's book
abbrev pub IsStranger : {P W : Type 0} → (P → P → Bool) → (W → P) → (W → ℕ) → (W → List Integral) → W → Relay P W → Type 0
IsStranger same plan sector targets piece relay = (same (plan piece) relay.plan ≡ false) ⊎ (targets piece ≢ book (sector piece) relay.progress.books)

-- the piece stands at some place among the others
pub record Gains {W : Type 0} (old : List W) (piece : W) (new : List W) : Type 0 where
  pub place : ℕ
  pub within : place ≤ length old
  pub is : new ≡ insert old place piece

abbrev pub IsOutOf : ℕ → ℕ → List Integral → Type 0
IsOutOf first end tails = (end < first) ⊎ (length tails < end)

-- What a post answers. The first refusal that holds is the answer, and only then may memory be short.
abbrev pub PostAnswers : {P W : Type 0} → (P → TailRelation) → (P → P → Bool) → (W → P) → (W → ℕ) → (W → List Integral) → (W → List Integral) → ℕ → W → ℕ → ℕ → Relay P W → Result (Unit {0}) PostFault → Relay P W → Type 0
PostAnswers are_tails same plan sector targets tails worker piece first end old (Ok done) new =
    (¬ IsStranger same plan sector targets piece old) × (¬ IsOutOf first end (tails piece))
    × Moves are_tails old (Post worker (record { 0 = sector piece }) first end) new × Adds integral_cmp old.progress.books (slice_range (tails piece) first end) new.progress.books × (new.pieces ≡ old.pieces)
PostAnswers are_tails same plan sector targets tails worker piece first end old (Err post.NotHeld) new = ¬ IsHeldBy worker (sector piece) old.progress
PostAnswers are_tails same plan sector targets tails worker piece first end old (Err post.Stranger) new = IsHeldBy worker (sector piece) old.progress × IsStranger same plan sector targets piece old
PostAnswers are_tails same plan sector targets tails worker piece first end old (Err (post.NotTail count)) new =
    IsHeldBy worker (sector piece) old.progress × (¬ IsStranger same plan sector targets piece old) × IsOutOf first end (tails piece) × (count ≡ length (tails piece))
PostAnswers are_tails same plan sector targets tails worker piece first end old (Err post.NoMemory) new =
    IsHeldBy worker (sector piece) old.progress × (¬ IsStranger same plan sector targets piece old) × (¬ IsOutOf first end (tails piece))

-- what a finish answers, likewise
abbrev pub FinishAnswers : {P W : Type 0} → (P → TailRelation) → (P → P → Bool) → (W → P) → (W → ℕ) → (W → List Integral) → (W → List Integral) → ℕ → W → Relay P W → Result (Unit {0}) (FinishFault W) → Relay P W → Type 0
FinishAnswers are_tails same plan sector targets tails worker piece old (Ok done) new =
    (¬ IsStranger same plan sector targets piece old)
    × Moves are_tails old (Finish worker (record { 0 = sector piece })) new × Adds integral_cmp old.progress.books (tails piece) new.progress.books × Gains old.pieces piece new.pieces
FinishAnswers are_tails same plan sector targets tails worker piece old (Err (fault.NotHeld back)) new = (back ≡ piece) × (¬ IsHeldBy worker (sector piece) old.progress)
FinishAnswers are_tails same plan sector targets tails worker piece old (Err (fault.Stranger back)) new = (back ≡ piece) × IsHeldBy worker (sector piece) old.progress × IsStranger same plan sector targets piece old
FinishAnswers are_tails same plan sector targets tails worker piece old (Err (fault.NoMemory back)) new = (back ≡ piece) × IsHeldBy worker (sector piece) old.progress × (¬ IsStranger same plan sector targets piece old)
