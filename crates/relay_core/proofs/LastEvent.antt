-- A journal by its last event.
use Rattle.std.proofs.Common.{List, [], ◌∷◌, ◌++◌, refl, sym, subst}
use Rattle.std.specs.Prelude.{◌↔◌}
use Rattle.sector_lattice.specs.declared.integral.Integral.{Integral}
use Rattle.relay_core.specs.declared.event.Event.{Event}
use Rattle.relay_core.specs.Family.{TailRelation}
use Rattle.relay_core.specs.Relay.{Progress, Leads, Run, Opens, Replays}
use Rattle.relay_core.proofs.Kept.{replays_more}

pub replays_none : (tails : TailRelation) (targets : List Integral) (progress : Progress) → Replays tails targets [] progress ↔ Opens targets progress
replays_none tails targets progress = (
  λ replays. subst (λ p. Opens targets p) (sym replays.runs) replays.opens,
  λ opens. record { start = progress; opens = opens; runs = refl },
)

-- what a run that ends in an event passes before it
run_split : (tails : TailRelation) (old : Progress) (events : List Event) (event : Event) (new : Progress) → Run tails old (events ++ event ∷ []) new → (mid : Progress) × Run tails old events mid × Leads tails mid event new
run_split tails old [] event new runs = (old, refl, subst (λ p. Leads tails old event p) (sym runs.2) runs.1)
run_split tails old (e ∷ events) event new runs =
    let rest = run_split tails runs.0 events event new runs.2 in
    (rest.0, (runs.0, runs.1, rest.1), rest.2)

pub replays_one_more : (tails : TailRelation) (targets : List Integral) (journal : List Event) (event : Event) (new : Progress) →
    Replays tails targets (journal ++ event ∷ []) new ↔ ((old : Progress) × Replays tails targets journal old × Leads tails old event new)
replays_one_more tails targets journal event new = (
  λ replays. let split = run_split tails replays.start journal event new replays.runs in (split.0, record { start = replays.start; opens = replays.opens; runs = split.1 }, split.2),
  λ more. replays_more tails targets journal more.0 new event more.1 more.2,
)
