use Rattle.std.proofs.Common.{◌≡◌, ◌+◌, ◌++◌, ◌∷◌, [], List, length, map, sym, subst, ap, ◌∙◌, arith}
use Rattle.std.proofs.lemmas.List.{map-append, length-map}
use Rattle.mono_order.specs.declared.limits.TheConstants.{VARIABLES}
use Rattle.pair_queue.specs.declared.queue.Pair.{Pair}
use Rattle.pair_queue.specs.Pairs.{compare_pairs, insert_pairs}
use Rattle.module_vec.specs.ModuleVector.{ModuleVector, lead, IsMonicVector}
use Rattle.fast_division.specs.Kept.{AreRowsOf}
use Rattle.fast_division.proofs.KeptPlaces.{AreRowsOf-longer}
use Rattle.module_basis.specs.PlainRun.{RunState, run_state, AreNewPairs, pairs_with, IsSoundState}
use Rattle.module_basis.proofs.Forming.{AreNewPairs-formed, IsSoundState-added}
use Rattle.module_basis.proofs.run.Run.added.Goals as goal

pub push_all-requires : goal.push_all-requires
push_all-requires g c =
    let order = g.O.TermOrder.order in
    let elements : c.deref.result.now ≡ c.self.inside.elements.items = cc in
    let formed : c.deref-2.result.now ≡ c.in_ok-formed.formed.items = cc in
    let pairs : c.deref-2.result.now ≡ pairs_with (length c.self.inside.elements.items + 1) (lead c.args.element) 1 c.self.inside.elements.items =
    formed ∙ (c.in_ok-formed.ensures.formed ∙ (λ i. pairs_with (length (elements i) + 1) (c.lead_term-lead.ensures.lead i) 1 (elements i)))
    in
    subst (λ (l : List Pair). AreNewPairs (compare_pairs order c.self.inside.pairs.by) l c.self.inside.pairs.pairs) (sym pairs)
    (AreNewPairs-formed order VARIABLES (run_state c.self.inside.pairs.by c.self.inside.elements.items c.self.inside.pairs.pairs c.self.inside.taken) c.args.element c.self.invariant.0)

pub invariant_of-result : goal.invariant_of-result
invariant_of-result g c =
    let order = g.O.TermOrder.order in
    let elements : c.deref.result.now ≡ c.self.inside.elements.items = cc in
    let formed : c.deref-2.result.now ≡ c.in_ok-formed.formed.items = cc in
    let pairs : c.deref-2.result.now ≡ pairs_with (length c.self.inside.elements.items + 1) (lead c.args.element) 1 c.self.inside.elements.items =
    formed ∙ (c.in_ok-formed.ensures.formed ∙ (λ i. pairs_with (length (elements i) + 1) (c.lead_term-lead.ensures.lead i) 1 (elements i)))
    in
    let kept = c.lead_term-lead.ensures.kept in
    let monic : IsMonicVector order VARIABLES c.args.element = record { canonical = kept.canonical; terms = kept.terms; monic = c.requires.monic } in
    let by = c.self.inside.pairs.by in
    let queue : c.push_all.new.queue.pairs ≡ insert_pairs (compare_pairs order by) (pairs_with (length c.self.inside.elements.items + 1) (lead c.args.element) 1 c.self.inside.elements.items) c.self.inside.pairs.pairs =
    c.in_ok-push_all.ensures.added ∙ ap (λ (l : List Pair). insert_pairs (compare_pairs order by) l c.self.inside.pairs.pairs) pairs
    in
    let items : c.push.new.self.items ≡ c.self.inside.elements.items ++ c.args.element ∷ [] = c.in_ok-push.ensures.items in
    let sound = IsSoundState-added order VARIABLES (run_state c.self.inside.pairs.by c.self.inside.elements.items c.self.inside.pairs.pairs c.self.inside.taken) c.args.element c.self.inside.taken c.self.invariant.0 monic in
    let state = subst (IsSoundState order VARIABLES)
    (λ i. run_state (sym c.in_ok-push_all.ensures.by i) (sym items i) (sym queue i) c.self.inside.taken) sound
    in
    let leads : c.add.new.self ≡ map lead c.self.inside.elements.items ++ lead c.args.element ∷ [] =
    c.in_ok-add.ensures.added ∙ (λ i. c.self.invariant.1 i ++ c.lead_term-lead.ensures.lead i ∷ [])
    in
    let multiples = subst (λ (l : List ModuleVector). AreRowsOf g.O.TermOrder.high l c.self.inside.multiples) (sym items)
    (AreRowsOf-longer g.O.TermOrder.high c.self.inside.elements.items (c.args.element ∷ []) c.self.inside.multiples c.self.invariant.2)
    in
    (state, leads ∙ sym (ap (map lead) items ∙ map-append lead c.self.inside.elements.items (c.args.element ∷ [])), multiples)

pub add-requires : goal.add-requires
add-requires g c = omega (arith, c.requires.few, ap (λ (s : RunState). length s.elements) c.self.view_is, ap length c.self.invariant.1, length-map c.self.inside.elements.items lead)
