use Rattle.std.proofs.Common.{◌≡◌, ◌++◌, take}
use Rattle.ibp_algebra.specs.FormalSum.{map_keys}
use Rattle.mono_order.specs.declared.limits.TheConstants.{VARIABLES}
use Rattle.cut_family.specs.Places.{filled}
use Rattle.cut_family.proofs.polynomials.put_lifted_terms.Given as goal

abbrev pub invariant-loop-monomial : goal.invariant-loop-monomial
invariant-loop-monomial l = l.into.items ≡ l.fn.into.items ++ map_keys (filled 0 VARIABLES l.cut) (take l.monomial-index l.terms)
