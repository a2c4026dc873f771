use Rattle.std.proofs.Common.{◌∙◌, List, length, sym, subst}
use Rattle.std.specs.Prelude.{IfOk}
use Rattle.std.proofs.lemmas.Iterator.Adapters.{YieldsList-from_vec}
use Rattle.std.proofs.lemmas.Iterator.Consumers.{YieldsList-end, YieldsList-turn}
use Rattle.std.proofs.lemmas.List.{length_push}
use Rattle.sector_lattice.specs.Sectors.{integral_cmp}
use Rattle.sparse_rows.specs.Rows.{IntegralSum}
use Rattle.relation_pick.specs.Kept.{AnswersBy}
use Rattle.relation_pick.specs.Picking.{AllAnswers}
use Rattle.relation_pick.proofs.JoinedAnswers.{joins}
use Rattle.relation_pick.proofs.Pieces.{front_none, front_whole}
use Rattle.relation_pick.proofs.wide.reduce_at_once.Goals as goal

pub loop-piece-init : goal.loop-piece-init
loop-piece-init g c candidates keeps = rw (front_none c.args.targets.now c.piece_size-size.result, c.new-reductions.ensures.items, c.new-weights.ensures.items) tt

pub loop-piece-preserved : goal.loop-piece-preserved
loop-piece-preserved g c candidates keeps =
    let given = c.into_iter-piece-iterator.ensures.into_iter_gives in
    let pieces = c.in_ok-pieces.pieces in
    let turn = YieldsList-turn (YieldsList-from_vec pieces.items given.0 (given.1 ∙ pieces.ok.0)) c.loop-piece.yielded c.loop-piece.piece-iterator c.loop-piece.yielded_by c.next.result c.next.new.self c.in-Some.piece c.in-Some.is c.next.ensures.steps in
    let made = (c.in_ok-pieces.ensures.each (length c.loop-piece.yielded) c.in-Some.piece turn.0).1 in
    let answers = c.in_ok-forms.field-0 in
    let read : AnswersBy c.args.echelon.now made.argument.now answers.reductions.items answers.weights.items =
    subst (λ r. IfOk r (λ a. AnswersBy c.args.echelon.now made.argument.now a.reductions.items a.weights.items)) (sym turn.1 ∙ c.in_ok-forms.was) made.call in
    joins candidates c.args.targets.now made.argument.now c.piece_size-size.result (length c.loop-piece.yielded) _
    c.loop-piece.reductions.items answers.reductions.items _ c.loop-piece.weights.items answers.weights.items _
    (length_push c.loop-piece.yielded c.in-Some.piece) made.argument_is.value
    (let joined = c.in_ok-append.ensures.items in let same = c.in_ok-forms.forms-is in cc)
    (let joined = c.in_ok-append-2.ensures.items in let same = c.in_ok-forms.others-is in cc)
    (c.loop-piece.invariant candidates keeps) (read candidates keeps)

pub returns : goal.returns
returns g c candidates keeps =
    let given = c.into_iter-piece-iterator.ensures.into_iter_gives in
    let pieces = c.in_ok-pieces.pieces in
    let end = YieldsList-end (YieldsList-from_vec pieces.items given.0 (given.1 ∙ pieces.ok.0)) c.loop-piece.yielded c.loop-piece.piece-iterator c.loop-piece.yielded_by c.next.result c.next.new.self c.in-None.is c.next.ensures.steps in
    let whole = front_whole c.args.targets.now c.piece_size-size.result (length c.loop-piece.yielded) c.piece_size-size.ensures (end.1 ∙ sym pieces.ok.0 ∙ c.in_ok-pieces.ensures.len) in
    subst (λ (ts : List IntegralSum). AllAnswers integral_cmp candidates ts c.loop-piece.reductions.items c.loop-piece.weights.items) whole (c.loop-piece.invariant candidates keeps)
