use Rattle.std.proofs.Common.{◌≡◌, ◌∙◌, subst}
use Rattle.std.specs.List.Sorted.{IsPermutation}
use Rattle.std.proofs.lemmas.List.{take_all}
use Rattle.ibp_algebra.specs.FormalSum.{FormalSum}
use Rattle.sparse_terms.proofs.Sorting.{summed_canonical, summed_last, summed_more, IsCanonical-sorted, SameCoefficients-sorted}
use Rattle.sparse_terms.proofs.sum_of_terms.Goals as goal

pub append_term-requires-clause-canonical : goal.append_term-requires-clause-canonical
append_term-requires-clause-canonical g c =
    summed_canonical g.O.KeyOrder.order g.met.O.KeyOrder.total g.met.O.KeyOrder.unique _ _ _ _ c.loop-term-2-test.true c.term-item-in-loop-term-2.is c.loop-term-2.invariant

pub append_term-requires-clause-last : goal.append_term-requires-clause-last
append_term-requires-clause-last g c =
    summed_last g.O.KeyOrder.order g.met.O.KeyOrder.total g.met.O.KeyOrder.unique _ _ _ _ c.loop-term-2-test.true c.term-item-in-loop-term-2.is c.loop-term-2.invariant _
    c.deref-term-items.ensures.value c.sort_terms.ensures.descends

pub loop-term-2-preserved : goal.loop-term-2-preserved
loop-term-2-preserved g c =
    summed_more g.O.KeyOrder.order g.met.O.KeyOrder.total g.met.O.KeyOrder.unique _ _ _ _ c.loop-term-2-test.true c.term-item-in-loop-term-2.is c.loop-term-2.invariant _ c.in_ok-append_term.ensures

pub returns-clause-canonical : goal.returns-clause-canonical
returns-clause-canonical g c =
    IsCanonical-sorted g.O.KeyOrder.order g.met.O.KeyOrder.total g.met.O.KeyOrder.unique _ _ _ c.loop-term-2.invariant c.loop-term-2-test.false

pub returns-clause-sum : goal.returns-clause-sum
returns-clause-sum g c =
    let order = g.O.KeyOrder.order in
    let copied : c.loop-term.sorted.items ≡ c.args.terms.now = c.loop-term.invariant ∙ take_all _ _ c.loop-term-test.false in
    SameCoefficients-sorted order g.met.O.KeyOrder.total g.met.O.KeyOrder.unique _ _ _ _ _ c.loop-term-2.invariant c.loop-term-2-test.false c.deref-term-items.ensures.value
    (subst (λ (f : FormalSum g.row.K.Denot). IsPermutation f c.sort_terms.new.terms.items) copied c.sort_terms.ensures.permutation)
