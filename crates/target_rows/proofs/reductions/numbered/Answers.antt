use Rattle.std.proofs.Common.{◌∙◌}
use Rattle.std.specs.Prelude.{Contains}
use Rattle.row_echelon.proofs.Substituting.{AllKeys-item}
use Rattle.target_rows.proofs.Reducing.{numbered_more}
use Rattle.target_rows.proofs.reductions.numbered.Goals as goal

pub loop-place-preserved : goal.loop-place-preserved
loop-place-preserved c =
    c.in_ok-push.ensures.items
    ∙ numbered_more c.args.written.now c.args.weights.now c.loop-place.place-index c.loop-place-item.result c.number_of.result c.loop-place.numbered.items c.loop-place-test.true c.loop-place-item.is c.number_of.ensures c.loop-place.invariant

pub number_of-requires-clause-listed : goal.number_of-requires-clause-listed
number_of-requires-clause-listed c = AllKeys-item (Contains c.args.written.now) c.args.weights.now c.loop-place.place-index c.loop-place-item.result c.requires.listed c.loop-place-test.true c.loop-place-item.is
