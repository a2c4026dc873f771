use Rattle.std.proofs.Common.{◌≡◌, take}
use Rattle.ibp_algebra.specs.FormalSum.{normal_form}
use Rattle.sparse_terms.proofs.sum_of_terms.Given as goal

abbrev pub invariant-loop-term : goal.invariant-loop-term
invariant-loop-term g l = l.sorted.items ≡ take l.term-index l.terms

abbrev pub invariant-loop-term-2 : goal.invariant-loop-term-2
invariant-loop-term-2 g l = l.joined.items ≡ normal_form g.O.KeyOrder.order (take l.term-index l.term-items)
