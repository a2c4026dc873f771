use Rattle.std.proofs.Common.{subst}
use Rattle.std.specs.List.{All}
use Rattle.std.proofs.lemmas.List.Elements.{All-tail}
use Rattle.pair_queue.specs.Pairs.{IsKeyed}
use Rattle.pair_queue.proofs.queue.PairQueue.pop.Goals as goal

pub invariant_of-self-2 : goal.invariant_of-self-2
invariant_of-self-2 g c =
    let keyed = IsKeyed c.self.inside.by in
    All-tail keyed c.in_ok-queued.queued c.pop_first.new.self.keys (subst (All keyed) c.in_ok-queued.ensures.removal c.self.invariant)
