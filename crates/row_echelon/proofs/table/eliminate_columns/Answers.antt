use Rattle.std.proofs.Common.{◌≡◌, ◌+◌, ◌<◌, ◌++◌, ◌∷◌, [], suc, Some, length, sym, ap, subst, ◌∙◌, arith}
use Rattle.std.specs.Prelude.{slice_get}
use Rattle.std.specs.Ordering.{nat_cmp}
use Rattle.ibp_field.specs.Arithmetic.{neg_mod}
use Rattle.ibp_algebra.specs.FormalSum.{AllKeys, scale}
use Rattle.ibp_algebra.specs.Spans.{SameSum}
use Rattle.row_echelon.specs.KeptRows.{reduced_rows, by_place, NoPivot}
use Rattle.row_echelon.specs.Columns.{integral_at, named, IsZeroRow, HasColumns}
use Rattle.row_echelon.proofs.Eliminating.{IsEntry-at}
use Rattle.row_echelon.proofs.KeptSpans.{length-reduced_rows}
use Rattle.row_echelon.proofs.ByColumns.{Walk, Walk-subtract, Walk-keep, Walk-end, FitsColumns-length, FitsColumns-at}
use Rattle.row_echelon.proofs.table.eliminate_columns.Goals as goal

pub bounds-rows-place : goal.bounds-rows-place
bounds-rows-place c =
    let es = c.args.kept.now.entries in
    let entry = IsEntry-at 0 es c.in-Some-pivot_of.place _ c.requires.echelon.form c.in-Some-pivot_of.ensures.found in
    omega (arith, entry.within, FitsColumns-length c.args.columns.now c.args.rows.now (reduced_rows es) c.requires.fits, length-reduced_rows es)

pub add_multiple-requires : goal.add_multiple-requires
add_multiple-requires c =
    let es = c.args.kept.now.entries in
    let cs = c.args.columns.now in
    let entry = IsEntry-at 0 es c.in-Some-pivot_of.place _ c.requires.echelon.form c.in-Some-pivot_of.ensures.found in
    let below : c.in-Some-pivot_of.place < length c.args.rows.now =
    omega (arith, entry.within, FitsColumns-length cs c.args.rows.now (reduced_rows es) c.requires.fits, length-reduced_rows es)
    in
    let at = FitsColumns-at cs c.args.rows.now (reduced_rows es) c.in-Some-pivot_of.place c.index-rows-place.result c.requires.fits below in
    let has : HasColumns cs c.as_slice.result.now = subst (HasColumns cs) (sym (c.as_slice.ensures ∙ c.index-rows-place.is)) at.0 in
    subst (λ n. AllKeys (λ column. column < n) c.as_slice.result.now) (sym c.loop-found.invariant.long) has

pub loop-found-preserved : goal.loop-found-preserved
loop-found-preserved c =
    let es = c.args.kept.now.entries in
    let cs = c.args.columns.now in
    let row = named cs (by_place 0 c.args.work.now) in
    let column = c.in-Some.found.0 in
    let value = c.in-Some.found.1 in
    let d = c.loop-found.work in
    let terms = c.loop-found.left.terms.items in
    let steps = c.loop-found.left.steps.items in
    let walk = c.loop-found.invariant in
    let inside : column < length cs = omega (arith, c.in-Some.ensures.within.1, walk.long) in
    let next : suc column ≡ column + 1 = omega arith in
    let d' = c.clear.new.self in
    let free : NoPivot es c.integral-integral.result → NoPivot es (integral_at cs column) = λ h. subst (NoPivot es) c.integral-integral.ensures h in
    subst (λ n. Walk es cs c.args.whole row n d' c.push-in-None.new.self.items steps) next
    (Walk-keep es cs c.args.whole row c.loop-found.at column d terms steps value c.count-few.ensures.falls c.requires.echelon.form walk c.in-Some.ensures.within.0 inside
    c.in-Some.ensures.found c.in-Some.ensures.below c.in-Some.ensures.before c.push-in-None.new.self.items d' c.in-Some.ensures.not_zero c.clear.ensures c.in_ok-push-in-None.ensures.items
    (λ none. free (c.in-None.ensures.none (c.looks.ensures.first (c.deref.ensures.value ∙ none)))) (λ whole. free (c.in-None.ensures.none (c.looks.ensures.whole whole))))

pub loop-found-preserved-in-Continue-1 : goal.loop-found-preserved-in-Continue-1
loop-found-preserved-in-Continue-1 c =
    let es = c.args.kept.now.entries in
    let cs = c.args.columns.now in
    let row = named cs (by_place 0 c.args.work.now) in
    let column = c.in-Some.found.0 in
    let value = c.in-Some.found.1 in
    let d = c.loop-found.work in
    let terms = c.loop-found.left.terms.items in
    let steps = c.loop-found.left.steps.items in
    let walk = c.loop-found.invariant in
    let inside : column < length cs = omega (arith, c.in-Some.ensures.within.1, walk.long) in
    let next : suc column ≡ column + 1 = omega arith in
    let place = c.in-Some-pivot_of.place in
    let kept = c.in-Some-pivot_of.row.now in
    let d' = c.add_multiple.new.self in
    let multiples = c.as_slice.result.now in
    let found : slice_get es place ≡ Some (integral_at cs column, kept) = c.in-Some-pivot_of.ensures.found ∙ (λ i. Some (c.integral-integral.ensures i, kept)) in
    let entry = IsEntry-at 0 es place _ c.requires.echelon.form found in
    let below : place < length c.args.rows.now = omega (arith, entry.within, FitsColumns-length cs c.args.rows.now (reduced_rows es) c.requires.fits, length-reduced_rows es) in
    let at = FitsColumns-at cs c.args.rows.now (reduced_rows es) place c.index-rows-place.result c.requires.fits below in
    let by_columns : named cs multiples ≡ kept.reduced = ap (named cs) (c.as_slice.ensures ∙ c.index-rows-place.is) ∙ at.1 ∙ entry.row in
    let added : SameSum nat_cmp (by_place 0 d') (by_place 0 d ++ scale (neg_mod c.mul-factor.result) multiples) =
    subst (λ n. SameSum nat_cmp (by_place 0 d') (by_place 0 d ++ scale n multiples)) c.neg.ensures c.add_multiple.ensures.sum
    in
    subst (λ n. Walk es cs c.args.whole row n d' terms c.push.new.self.items) next
    (Walk-subtract es cs c.args.whole row c.loop-found.at column d terms steps value c.count-few.ensures.falls c.requires.echelon.form walk c.in-Some.ensures.within.0 inside
    c.in-Some.ensures.found c.in-Some.ensures.below c.in-Some.ensures.before d' place kept multiples found by_columns c.add_multiple.ensures.length
    (subst (λ n. SameSum nat_cmp (by_place 0 d') (by_place 0 d ++ scale (neg_mod n) multiples)) c.mul-factor.ensures added)
    c.push.new.self.items (c.in_ok-push-in-Some-pivot_of.ensures.items ∙ ap (λ n. steps ++ (place, n) ∷ []) c.mul-factor.ensures))

pub unmark-requires : goal.unmark-requires
unmark-requires c = (Walk-end _ _ _ _ _ _ _ _ c.loop-found.invariant c.in_default.ensures.none).0

pub returns-clause-zero : goal.returns-clause-zero
returns-clause-zero c = subst IsZeroRow (sym c.unmark.ensures) (unmark-requires c.before)

pub returns-clause-left : goal.returns-clause-left
returns-clause-left c = (Walk-end _ _ _ _ _ _ _ _ c.loop-found.invariant c.in_default.ensures.none).1
