use Rattle.std.proofs.Common.{ap, sym, ◌∙◌, map}
use Rattle.std.specs.Ordering.{nat_cmp}
use Rattle.std.specs.Cmp.Lexicographic.{slice_cmp, nat_list_cmp_total}
use Rattle.std.specs.FinMap.{get, find, get-from_entries}
use Rattle.std.specs.VecDeque.Iter.{deque_iter_rest}
use Rattle.poly_text.proofs.Finding.{found, passed}
use Rattle.poly_text.specs.declared.numbers.Entry.{Entry}
use Rattle.poly_text.proofs.numbers.Numbers.value_of.Goals as goal

pub loop-entry-init : goal.loop-entry-init
loop-entry-init c =
    ap (λ m. get m c.args.name.now) (sym c.self.view_is)
    ∙ get-from_entries nat_list_cmp_total _ _
    ∙ ap (λ es. find (slice_cmp nat_cmp) c.args.name.now (map (λ (e : Entry). (e.name.items, e.value)) es)) (sym c.into_iter-entry-iterator.ensures.into_iter_gives.0)

pub returns-then-eq : goal.returns-then-eq
returns-then-eq c =
    found c.args.name.now c.in-Some.entry.now.name.items c.as_slice.result.now c.in-Some.entry.now.value
    (map (λ (e : Entry). (e.name.items, e.value)) (deque_iter_rest c.next.new.self)) c.eq.result _ _ c.eq.ensures c.as_slice.ensures.value c.if-eq.true
    (ap (map (λ (e : Entry). (e.name.items, e.value))) c.in-Some.ensures.steps) c.loop-entry.invariant

pub loop-entry-preserved : goal.loop-entry-preserved
loop-entry-preserved c =
    passed c.args.name.now c.in-Some.entry.now.name.items c.as_slice.result.now c.in-Some.entry.now.value
    (map (λ (e : Entry). (e.name.items, e.value)) (deque_iter_rest c.next.new.self)) c.eq.result _ _ c.eq.ensures c.as_slice.ensures.value c.if-eq.false
    (ap (map (λ (e : Entry). (e.name.items, e.value))) c.in-Some.ensures.steps) c.loop-entry.invariant
