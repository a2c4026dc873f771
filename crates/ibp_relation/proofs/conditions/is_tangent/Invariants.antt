use Rattle.std.proofs.Common.{take}
use Rattle.ibp_algebra.specs.Polynomial.{SamePolynomial, derivative_along}
use Rattle.ibp_relation.proofs.conditions.is_tangent.Given as goal

abbrev pub invariant-loop-i : goal.invariant-loop-i
invariant-loop-i l = SamePolynomial l.sum (derivative_along (take l.i l.a) l.baikov)
