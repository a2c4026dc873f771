use Rattle.std.proofs.Common.{List, map, sym, ap, ◌∙◌}
use Rattle.std.specs.Prelude.{ℕ, ℤ}
use Rattle.sector_lattice.specs.Orders.{integrals_decide}
use Rattle.sparse_rows.specs.Rows.{IntegralSum}
use Rattle.row_echelon.specs.Columns.{integral_at}
use Rattle.row_echelon.proofs.ColumnLists.{at_term}
use Rattle.row_echelon.proofs.columns.Columns.number.Goals as goal

pub returns-then-eq-clause-named : goal.returns-then-eq-clause-named
returns-then-eq-clause-named c =
    let number = c.in_ok-number.field-0.now in
    let term = c.in_ok-found.field-0.now in
    let found = c.in_ok-found.ensures.lookup.3 in
    ap (λ (cs : List (List ℤ)). integral_at cs number) (sym c.self.view_is ∙ ap (λ (f : IntegralSum). map (λ (t : List ℤ × ℕ). t.0) f) (sym c.terms.ensures.same))
    ∙ at_term c.terms.result.now number term term found.0 (sym (found.1 _))
    ∙ (integrals_decide term.0 c.args.integral.now).0 (sym c.eq.ensures ∙ c.if-eq.true)
