use Rattle.std.proofs.Common.{◌≡◌, Some, sym, ◌∙◌, ap}
use Rattle.std.specs.Prelude.{slice_get}
use Rattle.row_echelon.proofs.Finding.{NoPivot-from_lookup, found_entry, term_at, no_pivot_at}
use Rattle.row_echelon.proofs.elimination.pivot_at.Goals as goal

pub returns-in_err-place-clause-none : goal.returns-in_err-place-clause-none
returns-in_err-place-clause-none c =
    let found = c.in_ok-term.ensures.lookup.3 in
    let at : slice_get c.args.work.now c.args.at ≡ Some c.in_ok-term.field-0.now =
    ap (λ f. slice_get f c.args.at) (sym c.terms.ensures.same) ∙ term_at _ _ _ found.0 (found.1 _)
    in
    rw c.from_residual-in_err-place.ensures
    (no_pivot_at c.args.kept.now.entries c.args.work.now c.args.at c.in_ok-term.field-0.now at (NoPivot-from_lookup _ _ (sym c.in_err-place.ensures.value)))

pub returns-clause-term : goal.returns-clause-term
returns-clause-term c =
    let found = c.in_ok-term.ensures.lookup.3 in
    ap (λ f. slice_get f c.args.at) (sym c.terms.ensures.same) ∙ term_at _ _ c.in_ok-term.field-0.now found.0 (found.1 _)

pub returns-clause-found : goal.returns-clause-found
returns-clause-found c = found_entry _ _ _ _ _ c.in_ok-place.ensures.entry c.in_ok-place.ensures.key
