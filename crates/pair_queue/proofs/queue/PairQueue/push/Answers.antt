use Rattle.std.proofs.Common.{◌∙◌, ℕ, ap, map, subst}
use Rattle.std.specs.List.{All, Contains}
use Rattle.std.specs.BTreeSet.{insert_key}
use Rattle.std.proofs.lemmas.Map.Views.{All-insert_key}
use Rattle.pair_queue.specs.declared.queue.Pair.{Pair}
use Rattle.pair_queue.specs.Pairs.{PairQueueValue, compare_keyed, compare_pairs, insert_pair, IsKeyed}
use Rattle.pair_queue.proofs.Inserting.{insert_pair-key, after_insertion}
use Rattle.pair_queue.proofs.queue.PairQueue.push.Goals as goal

pub invariant_of-self-2 : goal.invariant_of-self-2
invariant_of-self-2 g c =
    let by = c.self.inside.by in
    let key : ℕ × Pair = (c.degree-degree.result, c.args.pair) in
    after_insertion (All (IsKeyed by)) c.insert.result c.insert.new.self.keys c.self.inside.pairs.keys (insert_key (compare_keyed g.O.TermOrder.order) c.self.inside.pairs.keys key)
    c.insert.ensures.keys c.insert.ensures.err
    (All-insert_key (compare_keyed g.O.TermOrder.order) key (IsKeyed by) c.self.inside.pairs.keys c.self.invariant c.degree-degree.ensures) c.self.invariant

pub returns-clause-added : goal.returns-clause-added
returns-clause-added g c =
    let by = c.self.inside.by in
    let key : ℕ × Pair = (c.degree-degree.result, c.args.pair) in
    ap (map (λ (k : ℕ × Pair). k.1)) c.in_ok-insert.ensures.keys
    ∙ (insert_pair-key g.O.TermOrder.order by g.met.O.TermOrder.laws.unique key c.self.inside.pairs.keys c.degree-degree.ensures c.self.invariant
    (λ k. c.requires (subst (λ (q : PairQueueValue). Contains q.pairs c.args.pair) c.self.view_is k))
    ∙ ap (λ (q : PairQueueValue). insert_pair (compare_pairs g.O.TermOrder.order q.by) c.args.pair q.pairs) c.self.view_is)
