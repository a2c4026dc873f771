use Rattle.std.proofs.Common.{◌≡◌, ◌<◌, Bool, true, false, if◌then◌else◌, get_or, set, ◌-◌, sym, subst, ap, ◌∙◌, arith}
use Rattle.mono_order.specs.Term.{Term}
use Rattle.family.specs.Conditions.{in_sector}
use Rattle.meet_module.specs.MeetRuns.{stripped_term}
use Rattle.meet_module.proofs.VectorLists.{outside_term, inside_not}
use Rattle.meet_module.proofs.vectors.stripped_term.Goals as goal
use Rattle.meet_module.proofs.vectors.stripped_term.Goals.{else-term-n-via-then-term-n+else-is_inside, else-term-n-via-else-term-n}

pub returns-else-term-n-clause-value : goal.returns-else-term-n-clause-value
returns-else-term-n-clause-value c =
    let t = c.args.term.now in
    elim c.else-term-n.branch [
      | else-term-n-via-then-term-n+else-is_inside w ↦ c.term.view_is ∙ sym (inside_not c.args.sector.0 t (ap (λ (u : Term). in_sector c.args.sector.0 (u.0 - 1)) (sym c.term.view_is) ∙ sym w.is_inside.ensures ∙ w.if-is_inside.false))
      | else-term-n-via-else-term-n w ↦ c.term.view_is ∙ sym (outside_term c.args.n c.args.sector.0 t c.requires.sector (subst (λ (u : Term). c.args.n < u.0) c.term.view_is (omega (arith, w.if-term-n.false))))
    ]
