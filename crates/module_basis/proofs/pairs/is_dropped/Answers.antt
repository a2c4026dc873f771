use Rattle.std.proofs.Common.{sym, ◌∙◌}
use Rattle.module_basis.proofs.Dropping.{is_dropped-passed}
use Rattle.module_basis.proofs.pairs.is_dropped.Goals as goal

pub loop-place-preserved : goal.loop-place-preserved
loop-place-preserved g c =
    is_dropped-passed c.args.elements.now c.loop-place.place c.index-elements-place.result c.lead_term.result c.args.pairs.now.pairs c.args.pair.now c.loop-place-test.true c.index-elements-place.is c.lead_term.ensures.lead
    (sym c.is_dropped_through.ensures ∙ c.if-is_dropped_through.false)
    ∙ c.loop-place.invariant
