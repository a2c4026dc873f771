use Rattle.std.proofs.Common.{◌≡◌, take}
use Rattle.sparse_poly.proofs.poly.copy_polynomials.Given as goal

abbrev pub invariant-loop-polynomial : goal.invariant-loop-polynomial
invariant-loop-polynomial l = l.copies.items ≡ take l.polynomial-index l.polynomials
