-- Each finish in a journal is one sector that is done.
use Rattle.std.proofs.Common.{◌≡◌, ℕ, suc, ◌+◌, cond, List, [], ◌∷◌, length, refl, ap, arith}
use Rattle.std.specs.Prelude.{Contains}
use Rattle.std.proofs.lemmas.List.Sums.{sum_by-cons}
use Rattle.sector_lattice.specs.declared.integral.Integral.{Integral}
use Rattle.relay_core.specs.declared.event.Event.{Event}
use Rattle.relay_core.specs.declared.event.Event.TheVariants.{Take, Post, Finish, GiveBack}
use Rattle.relay_core.specs.Family.{TailRelation, AreLawful}
use Rattle.relay_core.specs.Relay.{Progress, Leads, Run, Replays, is_finish, finishes_in}
use Rattle.relay_core.proofs.Counts.{one_more}
use Rattle.relay_core.proofs.Sound.{IsSound, IsAtWork, step, opening_sound}

module _ (tails : TailRelation) (n : ℕ) (lawful : AreLawful tails n) (targets : List Integral) where
  step_counts : (old : Progress) (event : Event) (new : Progress) → IsSound tails n targets old → Leads tails old event new → length new.done ≡ cond (is_finish event) 1 0 + length old.done
  step_counts old (Take worker sector) new sound leads = (let same : length new.done ≡ length old.done = ap (λ (p : Progress). length p.done) leads.1 in omega arith)
  step_counts old (Post worker sector first end) new sound leads = (let same : length new.done ≡ length old.done = ap length leads.same_done in omega arith)
  step_counts old (Finish worker sector) new sound leads =
      let work : IsAtWork old sector.0 = sound.held sector.0 worker leads.held in
      let more : length new.done ≡ suc (length old.done) = one_more old.done new.done sector.0 sound.ordered leads.done work.undone in
      omega arith
  step_counts old (GiveBack worker sector) new sound leads = (let same : length new.done ≡ length old.done = ap (λ (p : Progress). length p.done) leads.1 in omega arith)

  run_counts : (old : Progress) (events : List Event) (new : Progress) → IsSound tails n targets old → Run tails old events new → length new.done ≡ finishes_in events + length old.done
  run_counts old [] new sound same = (let none : finishes_in [] ≡ 0 = refl in let long : length new.done ≡ length old.done = ap (λ (p : Progress). length p.done) same in omega arith)
  run_counts old (event ∷ events) new sound runs =
      let first : length runs.0.done ≡ cond (is_finish event) 1 0 + length old.done = step_counts old event runs.0 sound runs.1 in
      let rest : length new.done ≡ finishes_in events + length runs.0.done = run_counts runs.0 events new (step tails n lawful targets old event runs.0 sound runs.1).sound runs.2 in
      let all : finishes_in (event ∷ events) ≡ cond (is_finish event) 1 0 + finishes_in events = sum_by-cons (λ e. cond (is_finish e) 1 0) event events in
      omega arith

  pub finishes_are_done : (journal : List Event) (progress : Progress) → ((t : Integral) → Contains targets t → length t ≡ n) → Replays tails targets journal progress → finishes_in journal ≡ length progress.done
  finishes_are_done journal progress opened replays =
      let none : length replays.start.done ≡ 0 = ap length replays.opens.undone in
      let all : length progress.done ≡ finishes_in journal + length replays.start.done = run_counts replays.start journal progress (opening_sound tails n lawful targets replays.start opened replays.opens) replays.runs in
      omega arith
