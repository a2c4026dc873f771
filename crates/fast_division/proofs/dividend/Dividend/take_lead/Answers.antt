use Rattle.std.proofs.Common.{◌≢◌, [], ◌++◌, subst, rules}
use Rattle.fast_division.specs.PartialSums.{IsBounded}
use Rattle.fast_division.proofs.Dividends.{IsSplit-bounded}
use Rattle.fast_division.proofs.dividend.Dividend.take_lead.Goals as goal

pub returns-in-Some-clause-vector : goal.returns-in-Some-clause-vector
returns-in-Some-clause-vector g c =
    let some : c.self.inside.high ++ c.self.inside.low ≢ [] = λ e. search rules in
    subst (IsBounded g.O.TermOrder.order) c.self.view_is
    (IsSplit-bounded g.O.TermOrder.order g.met.O.TermOrder.laws c.self.inside.high c.self.inside.low c.self.inside.buckets c.self.inside.is_dense c.self.invariant some)
