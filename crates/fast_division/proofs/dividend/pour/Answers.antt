use Rattle.std.proofs.Common.{◌≡◌, ◌++◌, sym, subst, ◌∙◌, rules}
use Rattle.std.proofs.lemmas.Result.{on_ok_weaker}
use Rattle.fast_division.specs.PartialSums.{IsBounded}
use Rattle.fast_division.proofs.Totals.{one_within}
use Rattle.fast_division.proofs.Dividends.{one_added}
use Rattle.fast_division.proofs.dividend.pour.Goals as goal

pub add_terms-requires-clause-within : goal.add_terms-requires-clause-within
add_terms-requires-clause-within g c =
    let all : c.deref.result.now ≡ c.args.high.now ++ c.args.low.now = search rules in
    one_within g.O.TermOrder.order g.met.O.TermOrder.laws c.deref.result.now c.one-2.result c.one-2.ensures (subst (IsBounded g.O.TermOrder.order) (sym all) c.requires.bounded)

pub returns-clause-moved : goal.returns-clause-moved
returns-clause-moved g c =
    let all : c.deref.result.now ≡ c.args.high.now ++ c.args.low.now = search rules in
    on_ok_weaker c.add_terms.result
    (λ is. is ∙ one_added g.O.TermOrder.order g.met.O.TermOrder.laws c.args.buckets.now c.deref.result.now (c.args.high.now ++ c.args.low.now) c.one-2.result c.one.result c.one-2.ensures c.one.ensures c.requires.empty all c.requires.bounded)
    c.add_terms.ensures.sum
