use Rattle.std.proofs.Common.{take, ◌-◌}
use Rattle.ibp_algebra.specs.Polynomial.{SamePolynomial, derivative}
use Rattle.sparse_poly.proofs.poly.Poly.derivative.Given as goal

abbrev pub invariant-loop-monomial : goal.invariant-loop-monomial
invariant-loop-monomial l = SamePolynomial l.terms.items (derivative (l.i - 1) (take l.monomial-index l.monomial-items))
