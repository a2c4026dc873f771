use Rattle.std.proofs.Common.{◌-◌, subst, rules, tests}
use Rattle.std.proofs.lemmas.Iterator.{YieldsList-from_slice}
use Rattle.std.proofs.lemmas.Iterator.Search.{all_from_yields_List}
use Rattle.std.specs.Bool.{Decides}
use Rattle.ibp_algebra.specs.Polynomial.{Polynomial, IsDivisibleBy}
use Rattle.ibp_algebra.proofs.Divisibility.{has_variable, Decides-IsDivisibleBy}
use Rattle.sparse_poly.proofs.poly.Poly.divisible_by.Goals as goal

pub returns : goal.returns
returns c =
    let i = c.args.i - 1 in
    let answer =
    all_from_yields_List (has_variable i) _ _ _ c.all.ensures.ran (YieldsList-from_slice c.self.inside.terms.items cc) (λ x b q k. search (rules, tests))
    in
    subst (λ (f : Polynomial). Decides c.all.result (IsDivisibleBy i f)) c.self.view_is
    (Decides-IsDivisibleBy i c.self.inside.terms.items c.all.result c.self.invariant answer)
