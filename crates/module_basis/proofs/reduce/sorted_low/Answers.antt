use Rattle.std.proofs.Common.{◌≡◌, ◌+◌, ◌++◌, ◌∷◌, true, false, List, take, drop, sym, subst, ap, ◌∙◌}
use Rattle.std.specs.List.{prefix_len}
use Rattle.std.specs.Ordering.{is_lt}
use Rattle.mono_order.specs.Term.{Term}
use Rattle.module_vec.specs.ModuleVector.{ModuleVector, lead}
use Rattle.module_basis.proofs.Reducing.{insert_descending}
use Rattle.module_basis.proofs.Keeping.{descending_place, descending_place-is, IsSorting, insert_descending-place, IsSorting-high, IsSorting-low, IsSorting-end}
use Rattle.module_basis.proofs.reduce.sorted_low.Goals.{then-not-is_high+in_ok-copy+in_ok-insert, else-not-is_high}
use Rattle.module_basis.proofs.reduce.sorted_low.Goals as goal

pub loop-element-preserved : goal.loop-element-preserved
loop-element-preserved g c =
    let laws = g.met.O.TermOrder.laws in
    let order = g.O.TermOrder.order in
    let high = g.O.TermOrder.high in
    let component : c.lead.inside.component ≡ (lead c.element-item.result).0 = ap (λ (t : Term). t.0) (c.lead.view_is ∙ c.lead_term-lead.ensures.lead) in
    let test : c.is_high.result ≡ g.O.TermOrder.high (lead c.element-item.result).0 = c.is_high.ensures ∙ ap g.O.TermOrder.high component in
    elim c.if-not-is_high.branch [
      | then-not-is_high+in_ok-copy+in_ok-insert w ↦
          let low : g.O.TermOrder.high (lead c.element-item.result).0 ≡ false = sym test ∙ w.if-not-is_high.true in
          let deref : w.deref.result.now ≡ c.loop-element.sorted.items = cc in
          let place : w.place_of-place.result ≡ descending_place order (lead c.element-item.result) c.loop-element.sorted.items =
          w.place_of-place.ensures.place
          ∙ ((λ i. prefix_len (λ v. is_lt (order (c.lead_term-lead.ensures.lead i) (lead v))) (deref i))
          ∙ sym (descending_place-is order (lead c.element-item.result) c.loop-element.sorted.items))
          in
          let items : c.if-not-is_high.sorted.items ≡ insert_descending order c.element-item.result c.loop-element.sorted.items =
          (λ k. (w.sorted-is k).items)
          ∙ (w.in_ok-insert.ensures.items
          ∙ ((λ i. take (place i) c.loop-element.sorted.items ++ w.in_ok-copy.ensures i ∷ drop (place i) c.loop-element.sorted.items)
          ∙ insert_descending-place order c.element-item.result c.loop-element.sorted.items))
          in
          subst (λ (l : List ModuleVector). IsSorting order high c.args.elements.now (c.loop-element.element-index + 1) l) (sym items)
          (IsSorting-low laws c.args.elements.now c.loop-element.element-index c.element-item.result c.loop-element.sorted.items c.loop-element-test.true c.element-item.is low c.loop-element.invariant)
      | else-not-is_high w ↦
          let above : g.O.TermOrder.high (lead c.element-item.result).0 ≡ true = sym test ∙ w.if-not-is_high.false in
          subst (λ (l : List ModuleVector). IsSorting order high c.args.elements.now (c.loop-element.element-index + 1) l) (sym (λ k. (w.sorted-is k).items))
          (IsSorting-high laws c.args.elements.now c.loop-element.element-index c.element-item.result c.loop-element.sorted.items c.loop-element-test.true c.element-item.is above c.loop-element.invariant)
    ]

pub returns : goal.returns
returns g c =
    IsSorting-end g.met.O.TermOrder.laws c.args.elements.now c.loop-element.element-index c.loop-element.sorted.items c.loop-element.auto.element-index-end c.loop-element-test.false c.loop-element.invariant
