use Rattle.std.proofs.Common.{◌≡◌, ◌++◌, take}
use Rattle.sector_module.specs.Factors.{at_component}
use Rattle.meet_module.proofs.vectors.put_polynomial.Given as goal

abbrev pub invariant-loop-monomial : goal.invariant-loop-monomial
invariant-loop-monomial l = l.terms.items ≡ l.fn.terms.items ++ at_component l.component (take l.monomial-index l.monomial-items)
