use Rattle.std.proofs.Common.{◌≡◌, List, ◌∙◌, ap, subst}
use Rattle.family.specs.FamilyView.{family_view}
use Rattle.relay_core.specs.Relay.{Opens}
use Rattle.sector_job.specs.Candidates.{Integral}
use Rattle.sector_job.specs.Outcomes.{opening_targets}
use Rattle.neat_system.proofs.Running.{opens_under_way}
use Rattle.neat_system.proofs.alone.opened.Goals as goal

pub returns-clause-under_way : goal.returns-clause-under_way
returns-clause-under_way c =
    let plan = c.args.plan.now in
    let state = c.in_ok-state.state in
    let targets : c.deref.result.now ≡ opening_targets (family_view plan) = c.deref.ensures.value ∙ c.in_ok-targets.ensures ∙ ap (λ f. opening_targets (family_view f)) c.family.ensures in
    opens_under_way plan state (c.in_ok-state.ensures.plan.0 ∙ c.in_ok-share.ensures) (c.in_ok-state.ensures.plan.1 ∙ ap (λ f. f.n) c.family-2.ensures)
    (subst (λ (ts : List Integral). Opens ts state.progress) targets c.in_ok-state.ensures.opens) c.in_ok-state.ensures.fresh.1
