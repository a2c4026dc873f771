use Rattle.std.proofs.Common.{◌<◌, length, refl, ◌∙◌, rules, arith}
use Rattle.std.proofs.lemmas.List.{get_or_default}
use Rattle.row_echelon.proofs.Marking.{IsMarked-add}
use Rattle.row_echelon.proofs.Substituting.{AllKeys-item, step_added}
use Rattle.row_echelon.proofs.dense_row.add_marked.Goals as goal

pub offset_bounds-values-column : goal.offset_bounds-values-column
offset_bounds-values-column c =
    let within : c.loop-column-item.result.0 < length c.args.values.now = AllKeys-item _ c.args.terms.now c.loop-column.column-index c.loop-column-item.result c.requires.within c.loop-column-test.true c.loop-column-item.is in
    search rules

pub bounds-values-column : goal.bounds-values-column
bounds-values-column c =
    let within : c.loop-column-item.result.0 < length c.args.values.now = AllKeys-item _ c.args.terms.now c.loop-column.column-index c.loop-column-item.result c.requires.within c.loop-column-test.true c.loop-column-item.is in
    omega (arith, c.loop-column.auto.values)

pub offset_bounds-values-column-in-loop-column : goal.offset_bounds-values-column-in-loop-column
offset_bounds-values-column-in-loop-column c =
    let within : c.loop-column-item.result.0 < length c.args.values.now = AllKeys-item _ c.args.terms.now c.loop-column.column-index c.loop-column-item.result c.requires.within c.loop-column-test.true c.loop-column-item.is in
    search rules

pub bounds-values-column-in-loop-column : goal.bounds-values-column-in-loop-column
bounds-values-column-in-loop-column c =
    let within : c.loop-column-item.result.0 < length c.args.values.now = AllKeys-item _ c.args.terms.now c.loop-column.column-index c.loop-column-item.result c.requires.within c.loop-column-test.true c.loop-column-item.is in
    omega (arith, c.loop-column.auto.values)

pub bounds-marks-column : goal.bounds-marks-column
bounds-marks-column c =
    let within : c.loop-column-item.result.0 < length c.args.values.now = AllKeys-item _ c.args.terms.now c.loop-column.column-index c.loop-column-item.result c.requires.within c.loop-column-test.true c.loop-column-item.is in
    let room = c.loop-column.invariant.marked.room in
    omega (arith, room, c.loop-column.auto.values)

pub loop-column-preserved : goal.loop-column-preserved
loop-column-preserved c =
    let within : c.loop-column-item.result.0 < length c.args.values.now = AllKeys-item _ c.args.terms.now c.loop-column.column-index c.loop-column-item.result c.requires.within c.loop-column-test.true c.loop-column-item.is in
    record {
      sum = step_added c.loop-column.values c.args.values.now c.args.terms.now c.loop-column.column-index c.loop-column-item.result c.args.factor _ _ _ c.loop-column-test.true c.loop-column-item.is
          (omega (arith, c.loop-column.auto.values))
          (c.index-values-column.is ∙ get_or_default c.loop-column.values c.loop-column-item.result.0 c.index-values-column.result 0 (omega (arith, c.loop-column.auto.values)))
          refl c.add_product.ensures c.loop-column.invariant.sum;
      marked = IsMarked-add c.loop-column.values c.loop-column.marks c.loop-column-item.result.0 _ (omega (arith, c.loop-column.auto.values)) c.loop-column.invariant.marked;
    }
