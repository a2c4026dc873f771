use Rattle.std.proofs.Common.{◌≡◌, ap, subst, ◌∙◌}
use Rattle.ibp_algebra.specs.FormalSum.{map_keys}
use Rattle.sparse_rows.specs.Rows.{IntegralSum, SameRow}
use Rattle.cut_family.specs.Lifting.{lifted_integral}
use Rattle.cut_family.proofs.PlaceLaws.{from_empty}
use Rattle.sparse_rows.proofs.RowSums.{row_is}
use Rattle.cut_family.proofs.lifting.lifted_row.Goals as goal

pub returns : goal.returns
returns c =
    let moved : IntegralSum → IntegralSum = λ f. map_keys (lifted_integral c.args.n c.args.cut) f in
    let same : c.deref.result.now ≡ moved c.args.row.now =
    c.deref.ensures.value ∙ from_empty c.new-terms.result.items (moved c.terms.result.now) c.put_lifted_row.new.into.items c.new-terms.ensures.items c.in_ok-put_lifted_row.ensures ∙ ap moved c.terms.ensures.same in
    row_is c.in_ok-sum.sum (moved c.args.row.now) c.in_ok-sum.ensures.canonical (subst (SameRow c.in_ok-sum.sum) same c.in_ok-sum.ensures.sum)
