use Rattle.std.proofs.Common.{◌≡◌, ◌<◌, ◌++◌, refl, sym, ap, subst, ◌∙◌}
use Rattle.ibp_algebra.specs.FormalSum.{AllKeys}
use Rattle.ibp_algebra.specs.Combination.{combination}
use Rattle.ibp_algebra.specs.Spans.{row_at}
use Rattle.ibp_algebra.proofs.SumLaws.{SameCoefficients-trans}
use Rattle.sparse_rows.specs.Rows.{IntegralSum, SameRow}
use Rattle.row_echelon.specs.KeptRows.{reduced_rows, by_place}
use Rattle.row_echelon.specs.Columns.{named, FitsColumns}
use Rattle.row_echelon.specs.Tables.{with_rest}
use Rattle.row_echelon.proofs.ByColumns.{row_loaded, FitsColumns-with_rest}
use Rattle.row_echelon.proofs.ways.leads_by_columns.Goals as goal

pub add_multiple-requires : goal.add_multiple-requires
add_multiple-requires c = subst (λ n. AllKeys (λ column. column < n) c.args.terms.now) (sym c.requires.fits.long) c.requires.within

pub returns-clause-sum : goal.returns-clause-sum
returns-clause-sum c =
    let cs = c.args.table.columns in
    let loaded = named cs (by_place 0 c.add_multiple.new.self) in
    let taken = combination (row_at (reduced_rows c.args.kept.now.entries)) c.in_ok-left.left.steps.items in
    let rest_is : c.in_ok-rest.rest ≡ named cs c.in_ok-left.left.terms.items = c.in_ok-rest.ensures ∙ ap (named cs) c.deref-2.ensures.value in
    SameCoefficients-trans (row_loaded cs c.args.table.work c.add_multiple.new.self c.one.result c.args.terms.now (named cs c.args.terms.now) c.requires.fits.zero c.one.ensures refl c.add_multiple.ensures.sum)
    (subst (λ (f : IntegralSum). SameRow loaded (f ++ taken)) (sym rest_is) c.in_ok-left.ensures.left.sum)

pub returns-clause-table : goal.returns-clause-table
returns-clause-table c =
    let cs = c.args.table.columns in
    let rest_is : c.in_ok-rest.rest ≡ named cs c.in_ok-left.left.terms.items = c.in_ok-rest.ensures ∙ ap (named cs) c.deref-2.ensures.value in
    record {
      fits = subst (λ rows. FitsColumns cs rows (with_rest (reduced_rows c.args.kept.now.entries) c.in_ok-rest.rest))
          (sym (c.in_ok-keep_terms.ensures ∙ ap (with_rest c.args.table.rows.items) c.deref-3.ensures.value))
          (FitsColumns-with_rest cs c.args.table.rows.items (reduced_rows c.args.kept.now.entries) c.in_ok-left.left.terms.items c.in_ok-rest.rest c.requires.fits.fits c.in_ok-left.ensures.left.within rest_is);
      zero = c.in_ok-left.ensures.zero;
      long = c.in_ok-left.ensures.long ∙ c.add_multiple.ensures.length ∙ c.requires.fits.long;
    }
