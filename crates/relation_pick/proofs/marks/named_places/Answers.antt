use Rattle.std.proofs.Common.{◌≡◌, ◌<◌, ◌+◌, List, Bool, length, sym, ap, subst, ◌∙◌}
use Rattle.std.proofs.lemmas.Result.{IfOk-weaker}
use Rattle.ibp_algebra.specs.FormalSum.{AllKeys}
use Rattle.ibp_algebra.proofs.Combinations.{AllKeys-weaker}
use Rattle.row_echelon.proofs.Weighing.{whole_slice}
use Rattle.relation_pick.specs.Marks.{IsNamed, Marks, ListsMarked, ListsNamed}
use Rattle.relation_pick.proofs.Answering.{own_names}
use Rattle.relation_pick.proofs.Marking.{MarksNamed, MarksNamed-step, ListsNamed-whole, AnyNamed-at}
use Rattle.relation_pick.proofs.marks.named_places.Goals as goal

pub mark-requires : goal.mark-requires
mark-requires c =
    let weights = c.weights-item.result in
    let within : AllKeys (λ k. k < c.args.count) weights =
    AllKeys-weaker (IsNamed weights) (λ k. k < c.args.count)
    (λ k named. c.requires.within k (AnyNamed-at c.args.all.now c.loop-weights.weights-index weights k c.loop-weights-test.true c.weights-item.is named)) weights (own_names weights)
    in
    let room : length c.deref_mut.result.now ≡ c.args.count = ap length c.deref_mut.ensures.value ∙ c.loop-weights.invariant.1 in
    subst (AllKeys (λ place. place < length c.deref_mut.result.now)) (sym c.as_slice.ensures)
    (AllKeys-weaker (λ k. k < c.args.count) (λ k. k < length c.deref_mut.result.now) (λ k below. subst (λ n. k < n) (sym room) below) weights within)

pub loop-weights-preserved : goal.loop-weights-preserved
loop-weights-preserved c =
    let all = c.args.all.now in
    let weights = c.weights-item.result in
    let new = c.mark.new.marks in
    let marks_are = c.deref_mut.ensures.value in
    let same : length new ≡ length c.loop-weights.marks.items = c.mark.auto.marks ∙ ap length marks_are in
    let back = whole_slice new c.loop-weights.marks.items c.loop-weights.marks.len same c.loop-weights.marks.ok.0 in
    let marked : Marks c.loop-weights.marks.items new weights =
    subst (λ (marks : List Bool). Marks marks new weights) marks_are (subst (Marks c.deref_mut.result.now new) c.as_slice.ensures c.mark.ensures)
    in
    subst (λ (marks : List Bool). MarksNamed all (c.loop-weights.weights-index + 1) marks × (length marks ≡ c.args.count)) (sym back) (
      MarksNamed-step all c.loop-weights.weights-index c.loop-weights.marks.items new weights c.loop-weights-test.true c.weights-item.is marked c.loop-weights.invariant.0,
      same ∙ c.loop-weights.invariant.1,
    )

pub returns : goal.returns
returns c =
    let all = c.args.all.now in
    let marks = c.loop-weights.marks.items in
    IfOk-weaker c.marked_places.result (λ places. ListsMarked c.deref.result.now places.items) (λ places. ListsNamed all places.items)
    (λ places listed.
    ListsNamed-whole all c.loop-weights.weights-index marks places.items c.loop-weights-test.false c.loop-weights.invariant.0
    (subst (λ (m : List Bool). ListsMarked m places.items) c.deref.ensures.value listed))
    c.marked_places.ensures
