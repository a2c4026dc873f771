use Rattle.std.proofs.Common.{rules, tests, ℕ, ◌&&◌, nat_eq, ap, ◌∙◌}
use Rattle.std.proofs.lemmas.Iterator.Search.{any_from_yields_List}
use Rattle.std.proofs.lemmas.Iterator.Consumers.{YieldsList-from_rest}
use Rattle.pair_queue.specs.declared.queue.Pair.{Pair}
use Rattle.pair_queue.specs.Pairs.{PairQueueValue, has_pair}
use Rattle.pair_queue.proofs.Inserting.{has_pair_keys}
use Rattle.pair_queue.proofs.queue.PairQueue.contains.Goals as goal

pub returns : goal.returns
returns g c =
    any_from_yields_List (λ (k : ℕ × Pair). nat_eq k.1.first c.args.first && nat_eq k.1.second c.args.second) _ _ _ c.any.ensures.ran
    (YieldsList-from_rest c.self.inside.pairs.keys c.iter.ensures.rest) (λ x b q k. search (rules, tests))
    ∙ (has_pair_keys c.self.inside.pairs.keys c.args.first c.args.second
    ∙ ap (λ (q : PairQueueValue). has_pair q.pairs c.args.first c.args.second) c.self.view_is)
