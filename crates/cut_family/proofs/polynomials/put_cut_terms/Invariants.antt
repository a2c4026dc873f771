use Rattle.std.proofs.Common.{◌≡◌, ◌++◌, take}
use Rattle.ibp_algebra.specs.FormalSum.{map_keys, strike}
use Rattle.cut_family.specs.Cutting.{meets_cut, cut_exponents}
use Rattle.cut_family.proofs.polynomials.put_cut_terms.Given as goal

abbrev pub invariant-loop-monomial : goal.invariant-loop-monomial
invariant-loop-monomial l = l.into.items ≡ l.fn.into.items ++ map_keys (cut_exponents l.cut) (strike (meets_cut l.cut) (take l.monomial-index l.terms))
