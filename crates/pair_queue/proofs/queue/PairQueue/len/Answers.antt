use Rattle.std.proofs.Common.{subst}
use Rattle.std.specs.List.Sorted.{IsStrictlySortedBy}
use Rattle.pair_queue.specs.Pairs.{PairQueueValue, compare_pairs}
use Rattle.pair_queue.proofs.Inserting.{ascending_pairs}
use Rattle.pair_queue.proofs.queue.PairQueue.len.Goals as goal

pub returns-clause-ordered : goal.returns-clause-ordered
returns-clause-ordered g c =
    subst (λ (q : PairQueueValue). IsStrictlySortedBy (compare_pairs g.O.TermOrder.order q.by) q.pairs) c.self.view_is
    (ascending_pairs g.O.TermOrder.order c.self.inside.by c.self.inside.pairs.keys c.self.invariant c.len.ensures.ordered)
