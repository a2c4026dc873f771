use Rattle.std.proofs.Common.{ℕ, List, length, sym, ap, subst, ◌∙◌}
use Rattle.sector_lattice.specs.Sectors.{integral_cmp}
use Rattle.sparse_rows.specs.Rows.{IntegralSum}
use Rattle.row_echelon.specs.References.{rows_of}
use Rattle.relation_pick.specs.Kept.{KeepsBasis}
use Rattle.relation_pick.specs.Picking.{AllForms}
use Rattle.relation_pick.specs.Bases.{ListsBasis}
use Rattle.relation_pick.proofs.FormsInTurn.{AllForms-step, AllForms-whole}
use Rattle.relation_pick.proofs.Keeping.{IsForm-from_reduce}
use Rattle.relation_pick.proofs.picking.reduced_forms.Goals as goal

pub loop-target-preserved : goal.loop-target-preserved
loop-target-preserved c =
    AllForms-step integral_cmp c.args.candidates.now c.args.targets.now c.loop-target.target-index c.loop-target.forms.items c.push.new.self.items c.target-item.result c.in_ok-form.form
    c.loop-target-test.true c.target-item.is
    (IsForm-from_reduce c.args.candidates.now c.in_ok-basis.basis.echelon (subst (λ (rows : List IntegralSum). KeepsBasis rows (length rows) c.in_ok-basis.basis.echelon) (ap rows_of c.deref.ensures.value ∙ c.in_ok-rows.ensures) c.in_ok-basis.ensures.rows) c.target-item.result c.in_ok-form.form c.in_ok-form.ensures.form c.in_ok-form.ensures.canonical)
    c.in_ok-push.ensures.items c.loop-target.invariant

pub returns-clause-forms : goal.returns-clause-forms
returns-clause-forms c =
    subst (λ (forms : List IntegralSum). AllForms integral_cmp c.args.candidates.now c.args.targets.now forms) (sym c.from_vec.ensures)
    (AllForms-whole integral_cmp c.args.candidates.now c.args.targets.now c.loop-target.target-index c.loop-target.forms.items c.loop-target-test.false c.loop-target.invariant)

pub returns-clause-basis : goal.returns-clause-basis
returns-clause-basis c =
    subst (λ (places : List ℕ). ListsBasis integral_cmp c.args.candidates.now places) (sym c.from_vec-2.ensures)
    (subst (λ (rows : List IntegralSum). ListsBasis integral_cmp rows c.in_ok-basis.basis.places.items) (ap rows_of c.deref.ensures.value ∙ c.in_ok-rows.ensures) c.in_ok-basis.ensures.places)
