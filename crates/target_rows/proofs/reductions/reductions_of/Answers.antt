use Rattle.std.proofs.Common.{◌∙◌, ap, arith, get_or}
use Rattle.relation_pick.proofs.ByRows.{weights_written}
use Rattle.relation_pick.proofs.Marking.{AnyNamed-at}
use Rattle.ibp_algebra.specs.FormalSum.{map_keys}
use Rattle.target_rows.specs.Reductions.{number_of}
use Rattle.target_rows.proofs.Reducing.{reductions_next}
use Rattle.target_rows.proofs.reductions.reductions_of.Goals as goal

pub loop-place-preserved : goal.loop-place-preserved
loop-place-preserved c =
    let picked = c.args.picked.now in
    let form = c.index-forms-place.result in
    let w = c.index-weights-place.result in
    c.in_ok-push.ensures.items
    ∙ reductions_next picked.written c.index-targets-place.result form w c.args.targets.now picked.reductions picked.weights c.loop-place.place c.in_ok-reduced.reduced c.in_ok-weights.weights c.loop-place.reductions.items
    c.loop-place-test.true c.requires.forms c.requires.weights
    c.index-targets-place.is
    (c.index-forms-place.is ∙ ap (λ fs. get_or fs c.loop-place.place form) c.as_slice-forms.ensures)
    (c.index-weights-place.is ∙ ap (λ ws. get_or ws c.loop-place.place w) c.as_slice-weights.ensures)
    c.in_ok-reduced.ensures.same
    (c.in_ok-weights.ensures ∙ ap (map_keys (number_of c.as_slice-written.result.now)) c.as_slice.ensures ∙ ap (λ ws. map_keys (number_of ws) w) c.as_slice-written.ensures)
    c.loop-place.invariant

pub numbered-requires-clause-listed : goal.numbered-requires-clause-listed
numbered-requires-clause-listed c =
    let picked = c.args.picked.now in
    let w = c.index-weights-place.result in
    rw (c.as_slice-written.ensures, c.as_slice.ensures) (weights_written picked.written w (λ k named. c.requires.listed k (AnyNamed-at picked.weights c.loop-place.place w k (omega (arith, c.loop-place-test.true, c.requires.weights)) (c.index-weights-place.is ∙ ap (λ ws. get_or ws c.loop-place.place w) c.as_slice-weights.ensures) named)))
