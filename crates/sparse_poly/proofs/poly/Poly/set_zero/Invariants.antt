use Rattle.std.proofs.Common.{◌≡◌, take, ◌-◌}
use Rattle.ibp_algebra.specs.Polynomial.{set_zero}
use Rattle.sparse_poly.proofs.poly.Poly.set_zero.Given as goal

abbrev pub invariant-loop-monomial : goal.invariant-loop-monomial
invariant-loop-monomial l = l.terms.items ≡ set_zero (l.i - 1) (take l.monomial-index l.monomial-items)
