use Rattle.std.proofs.Common.{◌≡◌, ◌<◌, ◌++◌, length, refl, sym, ap, subst, ◌∙◌}
use Rattle.ibp_algebra.specs.FormalSum.{AllKeys}
use Rattle.ibp_algebra.specs.Combination.{combination}
use Rattle.ibp_algebra.specs.Spans.{row_at}
use Rattle.ibp_algebra.proofs.SumLaws.{SameCoefficients-trans}
use Rattle.sparse_rows.specs.Rows.{IntegralSum, SameRow}
use Rattle.row_echelon.specs.KeptRows.{reduced_rows, by_place, NoPivot}
use Rattle.row_echelon.specs.Columns.{named, IsZeroRow}
use Rattle.row_echelon.proofs.ByColumns.{row_loaded, AllKeys-named, zeros_are_zero, length_zeros}
use Rattle.row_echelon.proofs.ways.whole_by_columns.Goals as goal

pub add_multiple-requires : goal.add_multiple-requires
add_multiple-requires c =
    subst (λ n. AllKeys (λ column. column < n) c.args.terms.now) (sym (ap length c.in_ok-work.ensures ∙ length_zeros c.count.result ∙ c.count.ensures.count)) c.requires.within

pub returns-clause-sum : goal.returns-clause-sum
returns-clause-sum c =
    let cs = c.args.table.now.columns in
    let loaded = named cs (by_place 0 c.add_multiple.new.self) in
    let taken = combination (row_at (reduced_rows c.args.kept.now.entries)) c.in_ok-left.left.steps.items in
    let rest_is : c.in_ok-row_of.field-0 ≡ named cs c.in_ok-left.left.terms.items = c.in_ok-row_of.ensures ∙ ap (named cs) c.deref-2.ensures.value in
    let zero : IsZeroRow c.in_ok-work.work = subst IsZeroRow (sym c.in_ok-work.ensures) (zeros_are_zero c.count.result) in
    SameCoefficients-trans (row_loaded cs c.in_ok-work.work c.add_multiple.new.self c.one.result c.args.terms.now (named cs c.args.terms.now) zero c.one.ensures refl c.add_multiple.ensures.sum)
    (subst (λ (f : IntegralSum). SameRow loaded (f ++ taken)) (sym rest_is) c.in_ok-left.ensures.left.sum)

pub returns-clause-reduced : goal.returns-clause-reduced
returns-clause-reduced c =
    let cs = c.args.table.now.columns in
    let rest_is : c.in_ok-row_of.field-0 ≡ named cs c.in_ok-left.left.terms.items = c.in_ok-row_of.ensures ∙ ap (named cs) c.deref-2.ensures.value in
    subst (AllKeys (NoPivot c.args.kept.now.entries)) (sym rest_is) (AllKeys-named (NoPivot c.args.kept.now.entries) cs c.in_ok-left.left.terms.items (c.in_ok-left.ensures.left.reduced refl))
