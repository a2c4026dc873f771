use Rattle.std.proofs.Common.{◌≡◌, ◌++◌, ap, subst, ◌∙◌}
use Rattle.ibp_algebra.specs.FormalSum.{map_keys}
use Rattle.sparse_rows.specs.Rows.{IntegralSum, SameRow}
use Rattle.sparse_rows.proofs.RowSums.{row_is}
use Rattle.symmetry_fold.specs.Images.{lowest}
use Rattle.symmetry_fold.proofs.rows.fold_row.Goals as goal

pub returns : goal.returns
returns c =
    let moved : IntegralSum → IntegralSum = λ f. map_keys (lowest c.args.entries.now) f in
    let same : c.deref.result.now ≡ moved c.args.row.now =
    c.deref.ensures.value ∙ c.in_ok-put_folded.ensures ∙ ap (λ terms. terms ++ moved c.terms.result.now) c.new-terms.ensures.items ∙ ap moved c.terms.ensures.same in
    row_is c.in_ok-sum.sum (moved c.args.row.now) c.in_ok-sum.ensures.canonical (subst (SameRow c.in_ok-sum.sum) same c.in_ok-sum.ensures.sum)
