use Rattle.std.proofs.Common.{◌≡◌, take}
use Rattle.sector_module.specs.Factors.{at_component}
use Rattle.sector_module.proofs.vectors.generator.Given as goal

abbrev pub invariant-loop-monomial : goal.invariant-loop-monomial
invariant-loop-monomial l = l.terms.items ≡ at_component 0 (take l.monomial-index l.monomial-items)
