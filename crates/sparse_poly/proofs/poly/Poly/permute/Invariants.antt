use Rattle.std.proofs.Common.{◌≡◌, take}
use Rattle.ibp_algebra.specs.Polynomial.{permute}
use Rattle.sparse_poly.proofs.poly.Poly.permute.Given as goal

abbrev pub invariant-loop-monomial : goal.invariant-loop-monomial
invariant-loop-monomial l = l.terms.items ≡ permute l.to (take l.monomial-index l.monomial-items)
