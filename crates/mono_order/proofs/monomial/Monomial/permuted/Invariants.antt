use Rattle.mono_order.specs.declared.limits.TheConstants.{VARIABLES}
use Rattle.ibp_algebra.proofs.Permuting.{Replaced}
use Rattle.mono_order.proofs.monomial.Monomial.permuted.Given as goal

abbrev pub invariant-loop-i : goal.invariant-loop-i
invariant-loop-i l = Replaced VARIABLES l.to l.from l.exponents l.i
