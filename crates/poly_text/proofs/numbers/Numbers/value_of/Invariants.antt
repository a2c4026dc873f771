use Rattle.std.proofs.Common.{◌≡◌, map}
use Rattle.std.specs.Ordering.{nat_cmp}
use Rattle.std.specs.Cmp.Lexicographic.{slice_cmp}
use Rattle.std.specs.FinMap.{get, find}
use Rattle.std.specs.VecDeque.Iter.{deque_iter_rest}
use Rattle.poly_text.specs.declared.numbers.Entry.{Entry}
use Rattle.poly_text.proofs.numbers.Numbers.value_of.Given as goal

abbrev pub invariant-loop-entry : goal.invariant-loop-entry
invariant-loop-entry l =
    get l.self l.name ≡ find (slice_cmp nat_cmp) l.name (map (λ (e : Entry). (e.name.items, e.value)) (deque_iter_rest l.entry-iterator))
