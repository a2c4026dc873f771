-- What the facts that a relay keeps say of it as its callers see it.
use Rattle.std.proofs.Common.{◌≡◌, ◌≢◌, inl, inr, ℕ, suc, ◌+◌, ◌^◌, ◌≤◌, Bool, true, false, not, cond, List, [], ◌∷◌, ◌++◌, length, get_or, refl, sym, ◌∙◌, ap, subst, arith}
use Rattle.std.specs.Prelude.{Contains, All, Some, ◌==◌, map}
use Rattle.std.specs.List.Sorted.{IsStrictlySortedBy}
use Rattle.std.proofs.lemmas.List.Elements.{Contains-get_or}
use Rattle.std.proofs.lemmas.List.Kept.{IsStrictlySortedBy-filter}
use Rattle.sector_lattice.specs.declared.integral.Integral.{Integral}
use Rattle.sector_lattice.specs.Sectors.{integral_cmp, sector_cmp, Ascends}
use Rattle.relay_core.specs.declared.event.Event.{Event}
use Rattle.relay_core.specs.declared.event.Holding.{Holding}
use Rattle.relay_core.specs.Family.{TailRelation, Opening, book, IsReached, AreLawful, MeetsEquation}
use Rattle.relay_core.specs.Relay.{Progress, CanBeTaken, AllDone, Leads, Run, Opens, Replays, holder_of, without}
use Rattle.relay_core.specs.Facts.{LieBetween, IsHeldOrDone, IsFinal}
use Rattle.relay_core.specs.State.{Relay, IsKept, Moves}
use Rattle.relay_core.proofs.Sound.{IsSound, Stepped, replay_sound, step, book_stays}
use Rattle.relay_core.proofs.Facts.{lie_between, final, closed_meets, all_done_or, ripe_if, reached_if, done_few, held_open}
use Rattle.ibp_base.proofs.Members.{in_none, in_map}
use Rattle.relay_core.proofs.Held.{some_holder}
use Rattle.relay_core.proofs.SectorBooks.{from_book}
use Rattle.relay_core.specs.Jobs.{AreOf, AreAlike}

abbrev pub Opened : {P : Type 0} → (P → Opening) → Type 0
Opened {P} opening = (p : P) (t : Integral) → Contains (opening p).targets t → length t ≡ (opening p).n

abbrev pub Lawful : {P : Type 0} → (P → Opening) → (P → TailRelation) → Type 0
Lawful {P} opening tails = (p : P) → AreLawful (tails p) (opening p).n

pub run_more : (t : TailRelation) (old : Progress) (events : List Event) (mid new : Progress) (event : Event) → Run t old events mid → Leads t mid event new → Run t old (events ++ event ∷ []) new
run_more t old [] mid new event same leads = (new, subst (λ p. Leads t p event new) same leads, refl)
run_more t old (e ∷ events) mid new event runs leads = (runs.0, runs.1, run_more t runs.0 events mid new event runs.2 leads)

pub replays_more : (t : TailRelation) (ts : List Integral) (events : List Event) (mid new : Progress) (event : Event) → Replays t ts events mid → Leads t mid event new → Replays t ts (events ++ event ∷ []) new
replays_more t ts events mid new event replays leads = record { start = replays.start; opens = replays.opens; runs = run_more t replays.start events mid new event replays.runs leads }

-- what a piece after a step is: of this plan, and for the book of a sector that was held or done before it
pub record Fits {P W : Type 0} (same : P → P → Bool) (plan : W → P) (sector : W → ℕ) (targets : W → List Integral) (relay : Relay P W) (piece : W) : Type 0 where
  pub taken : IsHeldOrDone (sector piece) relay.progress
  pub own : same (plan piece) relay.plan ≡ true
  pub all : targets piece ≡ book (sector piece) relay.progress.books

module _ {P W : Type 0} {opening : P → Opening} {tails : P → TailRelation} {same : P → P → Bool} {plan : W → P} {sector : W → ℕ} {targets : W → List Integral} where
  -- the facts of a relay, for the relay as it is seen
  pub kept_as : {relay : Relay P W} (value : Relay P W) → relay ≡ value → IsKept opening tails same plan sector targets relay → IsKept opening tails same plan sector targets value
  kept_as value is kept = subst (λ r. IsKept opening tails same plan sector targets r) is kept

  pub sound_of : (relay : Relay P W) → Opened opening → Lawful opening tails → IsKept opening tails same plan sector targets relay → IsSound (tails relay.plan) (opening relay.plan).n (opening relay.plan).targets relay.progress
  sound_of relay opened lawful kept = replay_sound (tails relay.plan) (opening relay.plan).n (lawful relay.plan) (opening relay.plan).targets relay.journal relay.progress (opened relay.plan) kept.replays

  pub ascends_of : (relay : Relay P W) → Opened opening → Lawful opening tails → IsKept opening tails same plan sector targets relay → Ascends relay.progress.books
  ascends_of relay opened lawful kept = (sound_of relay opened lawful kept).ascends

  pub between_of : (relay : Relay P W) → Opened opening → Lawful opening tails → IsKept opening tails same plan sector targets relay → LieBetween (tails relay.plan) (opening relay.plan).targets relay.progress.books
  between_of relay opened lawful kept = lie_between (tails relay.plan) (opening relay.plan).n (lawful relay.plan) (opening relay.plan).targets (opened relay.plan) relay.progress (sound_of relay opened lawful kept)

  pub final_of : (relay : Relay P W) → Opened opening → Lawful opening tails → IsKept opening tails same plan sector targets relay → (s : ℕ) → IsHeldOrDone s relay.progress → IsFinal (tails relay.plan) (opening relay.plan).targets relay.progress s
  final_of relay opened lawful kept s taken = final (tails relay.plan) (opening relay.plan).n (lawful relay.plan) (opening relay.plan).targets (opened relay.plan) relay.progress (sound_of relay opened lawful kept) s taken

  pub closed_of : (relay : Relay P W) → Opened opening → Lawful opening tails → IsKept opening tails same plan sector targets relay → AllDone relay.progress → MeetsEquation (tails relay.plan) (opening relay.plan).targets relay.progress.books
  closed_of relay opened lawful kept closed = closed_meets (tails relay.plan) (opening relay.plan).n (lawful relay.plan) (opening relay.plan).targets (opened relay.plan) relay.progress (sound_of relay opened lawful kept) closed

  -- where none can be taken and none is held, all is done
  pub done_of : (relay : Relay P W) → Opened opening → Lawful opening tails → IsKept opening tails same plan sector targets relay → ((s : ℕ) → ¬ CanBeTaken s relay.progress) → relay.progress.held ≡ [] → AllDone relay.progress
  done_of relay opened lawful kept none free =
      elim (all_done_or (tails relay.plan) (opening relay.plan).n (lawful relay.plan) (opening relay.plan).targets (opened relay.plan) relay.progress (sound_of relay opened lawful kept) ⊥ none free) [ inl never ↦ absurd never | inr done ↦ done ]

  pub alike_of : (relay : Relay P W) → Opened opening → Lawful opening tails → IsKept opening tails same plan sector targets relay → AreAlike relay.progress.books
  alike_of relay opened lawful kept first second one two =
      let sound = sound_of relay opened lawful kept in
      sound.powers first one ∙ sym (sound.powers second two)

  pub ordered_of : (relay : Relay P W) → Opened opening → Lawful opening tails → IsKept opening tails same plan sector targets relay → IsStrictlySortedBy sector_cmp relay.progress.done
  ordered_of relay opened lawful kept = (sound_of relay opened lawful kept).ordered

  pub few_of : (relay : Relay P W) → Opened opening → Lawful opening tails → IsKept opening tails same plan sector targets relay → length relay.progress.done ≤ 2 ^ relay.n
  few_of relay opened lawful kept =
      subst (λ n. length relay.progress.done ≤ 2 ^ n) (sym kept.powers)
      (done_few (tails relay.plan) (opening relay.plan).n (lawful relay.plan) (opening relay.plan).targets (opened relay.plan) relay.progress (sound_of relay opened lawful kept))

  pub powers_of : (relay : Relay P W) → Opened opening → Lawful opening tails → IsKept opening tails same plan sector targets relay → (t : Integral) → Contains relay.progress.books t → length t ≡ relay.n
  powers_of relay opened lawful kept t inside = (sound_of relay opened lawful kept).powers t inside ∙ sym kept.powers

  pub reached_of : (relay : Relay P W) → Opened opening → Lawful opening tails → IsKept opening tails same plan sector targets relay → (s : ℕ) → IsHeldOrDone s relay.progress → IsReached s relay.progress.books
  reached_of relay opened lawful kept s taken =
      reached_if (tails relay.plan) (opening relay.plan).n (lawful relay.plan) (opening relay.plan).targets (opened relay.plan) relay.progress (sound_of relay opened lawful kept) s taken

  pub pieces_reached_of : (relay : Relay P W) → Opened opening → Lawful opening tails → IsKept opening tails same plan sector targets relay → relay.progress.done ≡ map sector relay.pieces → All (λ piece. IsReached (sector piece) relay.progress.books) relay.pieces
  pieces_reached_of relay opened lawful kept done = λ k d inside.
      let piece : W = get_or relay.pieces k d in
      reached_of relay opened lawful kept (sector piece) (inr (subst (λ xs. Contains xs (sector piece)) (sym done) (in_map sector relay.pieces piece (Contains-get_or relay.pieces k d inside))))

  pub plans_of : (relay : Relay P W) → IsKept opening tails same plan sector targets relay → All (λ piece. same (plan piece) relay.plan ≡ true) relay.pieces
  plans_of relay kept = λ k d inside. kept.plans _ (Contains-get_or relay.pieces k d inside)

  pub books_of : (relay : Relay P W) → IsKept opening tails same plan sector targets relay → All (λ piece. targets piece ≡ book (sector piece) relay.progress.books) relay.pieces
  books_of relay kept = λ k d inside. kept.books _ (Contains-get_or relay.pieces k d inside)

  -- while a sector is held, not all is done
  pub unclosed_of : (relay value : Relay P W) → relay ≡ value → Opened opening → Lawful opening tails → IsKept opening tails same plan sector targets relay → (s worker : ℕ) → holder_of s relay.progress.held ≡ Some worker → AllDone value.progress → ⊥
  unclosed_of relay value is opened lawful kept s worker held closed =
      held_open (tails relay.plan) (opening relay.plan).n (lawful relay.plan) (opening relay.plan).targets (opened relay.plan) relay.progress (sound_of relay opened lawful kept) s worker held (subst (λ (r : Relay P W). AllDone r.progress) (sym is) closed)

  pub waits_of : (relay value : Relay P W) → relay ≡ value → Opened opening → Lawful opening tails → IsKept opening tails same plan sector targets relay → relay.progress.held ≢ [] → AllDone value.progress → ⊥
  waits_of relay value is opened lawful kept some =
      let one = some_holder relay.progress.held some in
      unclosed_of relay value is opened lawful kept one.0 one.1 one.2

  -- a relay that was just opened
  pub kept_open : (relay : Relay P W) → relay.n ≡ (opening relay.plan).n → Opens (opening relay.plan).targets relay.progress → relay.journal ≡ [] → relay.pieces ≡ [] → IsKept opening tails same plan sector targets relay
  kept_open relay powers opens fresh none = record {
    powers = powers;
    replays = record { start = relay.progress; opens = opens; runs = subst (λ es. Run (tails relay.plan) relay.progress es relay.progress) (sym fresh) refl };
    plans = λ piece inside. absurd (in_none piece (subst (λ ps. Contains ps piece) none inside));
    books = λ piece inside. absurd (in_none piece (subst (λ ps. Contains ps piece) none inside));
  }

  -- after a step the relay still keeps its facts
  pub kept_after : (old new : Relay P W) (event : Event) → Opened opening → Lawful opening tails → IsKept opening tails same plan sector targets old → Moves tails old event new → ((piece : W) → Contains new.pieces piece → Fits same plan sector targets old piece) → IsKept opening tails same plan sector targets new
  kept_after old new event opened lawful kept moves fits =
      let sound = sound_of old opened lawful kept in
      let stepped : Stepped (tails old.plan) (opening old.plan).n (lawful old.plan) (opening old.plan).targets old.progress new.progress = step (tails old.plan) (opening old.plan).n (lawful old.plan) (opening old.plan).targets old.progress event new.progress sound moves.leads in
      record {
        powers = moves.n ∙ kept.powers ∙ ap (λ p. (opening p).n) (sym moves.plan);
        replays = subst (λ p. Replays (tails p) (opening p).targets new.journal new.progress) (sym moves.plan)
            (subst (λ es. Replays (tails old.plan) (opening old.plan).targets es new.progress) (sym moves.journal)
            (replays_more (tails old.plan) (opening old.plan).targets old.journal old.progress new.progress event kept.replays moves.leads));
        plans = λ piece inside. ap (λ p. same (plan piece) p) moves.plan ∙ (fits piece inside).own;
        books = λ piece inside.
            let fit = fits piece inside in
            let ripe = ripe_if (tails old.plan) (opening old.plan).n (lawful old.plan) (opening old.plan).targets (opened old.plan) old.progress sound (sector piece) fit.taken in
            fit.all ∙ sym (book_stays old.progress new.progress stepped.grows (sector piece) ripe);
      }

-- a sector that is let go is one entry less
pub without_shorter : (sector worker : ℕ) (held : List Holding) → holder_of sector held ≡ Some worker → length (without sector held) + 1 ≤ length held
without_shorter sector worker [] h = absurd (cc)
without_shorter sector worker (holding ∷ held) h =
    elim (holding.sector.0 == sector) as (λ b. cond b (Some holding.worker) (holder_of sector held) ≡ Some worker → length (cond (not b) (holding ∷ without sector held) (without sector held)) + 1 ≤ suc (length held)) [
      | true ↦ λ _. omega (arith, no_longer held)
      | false ↦ λ k. omega (arith, without_shorter sector worker held k)
    ] h
  where
    no_longer : (rest : List Holding) → length (without sector rest) ≤ length rest
    no_longer [] = omega arith
    no_longer (x ∷ rest) =
        elim (x.sector.0 == sector) as (λ b. length (cond (not b) (x ∷ without sector rest) (without sector rest)) ≤ suc (length rest)) [ true ↦ omega (arith, no_longer rest) | false ↦ omega (arith, no_longer rest) ]

-- ---- what a job keeps of a sector's book
pub book_some : (sector : ℕ) (books given : List Integral) → given ≡ book sector books → IsReached sector books → given ≢ []
book_some sector books given is reached none = reached (sym is ∙ none)

pub book_ascends : (sector : ℕ) (books given : List Integral) → given ≡ book sector books → Ascends books → Ascends given
book_ascends sector books given is up = subst (λ xs. Ascends xs) (sym is) (IsStrictlySortedBy-filter integral_cmp _ books up)

pub book_of_sector : (sector : ℕ) (books given : List Integral) → given ≡ book sector books → AreOf sector given
book_of_sector sector books given is t inside = (from_book sector books t (subst (λ xs. Contains xs t) is inside)).1

pub in_given : (sector : ℕ) (books given : List Integral) → given ≡ book sector books → (t : Integral) → Contains given t → Contains books t
in_given sector books given is t inside = (from_book sector books t (subst (λ xs. Contains xs t) is inside)).0

pub book_alike : (sector : ℕ) (books given : List Integral) → given ≡ book sector books → AreAlike books → AreAlike given
book_alike sector books given is alike first second one two =
    alike first second (from_book sector books first (subst (λ xs. Contains xs first) is one)).0 (from_book sector books second (subst (λ xs. Contains xs second) is two)).0

-- the same progress, part by part
pub same_progress : (books books' : List Integral) (held held' : List Holding) (done done' : List ℕ) → books ≡ books' → held ≡ held' → done ≡ done' →
    ◌≡◌ {A = Progress} (record { books = books; held = held; done = done }) (record { books = books'; held = held'; done = done' })
same_progress books books' held held' done done' b h d =
    ap (λ xs. let p : Progress = record { books = xs; held = held; done = done } in p) b
    ∙ ap (λ xs. let p : Progress = record { books = books'; held = xs; done = done } in p) h
    ∙ ap (λ xs. let p : Progress = record { books = books'; held = held'; done = xs } in p) d

-- the pieces that were there
pub old_fits : {P W : Type 0} {opening : P → Opening} {tails : P → TailRelation} {same : P → P → Bool} {plan : W → P} {sector : W → ℕ} {targets : W → List Integral} (relay : Relay P W) → IsKept opening tails same plan sector targets relay → relay.progress.done ≡ map sector relay.pieces →
    (piece : W) → Contains relay.pieces piece → Fits same plan sector targets relay piece
old_fits {sector = sector} relay kept done piece inside = record {
  taken = inr (subst (λ xs. Contains xs (sector piece)) (sym done) (in_map sector relay.pieces piece inside));
  own = kept.plans piece inside;
  all = kept.books piece inside;
}
