use Rattle.std.proofs.Common.{◌≡◌, length, sym, ◌∙◌, ap}
use Rattle.std.proofs.lemmas.Bool.{eqb-true}
use Rattle.family.specs.FamilyView.{family_view}
use Rattle.sector_job.specs.Outcomes.{opening_targets}
use Rattle.sector_job.proofs.Opening.{all_open}
use Rattle.worked_relays.proofs.relays.opened.Goals as goal

pub open-relay-requires-clause-targets : goal.open-relay-requires-clause-targets
open-relay-requires-clause-targets g c κs =
    let family = c.args.plan.now in
    let none : length family.zero ≡ 0 =
    ap length (sym (c.as_slice.ensures ∙ ap (λ f. f.zero) c.family-family.ensures)) ∙ eqb-true _ 0 (sym c.is_empty.ensures ∙ c.if-not-is_empty.false)
    in
    c.as_slice-2.ensures ∙ ap (λ f. f.targets) c.family-family.ensures ∙ sym (all_open family.zero family.targets none) ∙ ap (λ p. opening_targets (family_view p)) (sym c.shared.ensures)
