use Rattle.std.specs.Prelude.{max}
use Rattle.mono_order.specs.declared.limits.TheConstants.{VARIABLES}
use Rattle.mono_order.proofs.Places.{Combined}
use Rattle.mono_order.proofs.monomial.Monomial.lcm.Given as goal

abbrev pub invariant-loop-i : goal.invariant-loop-i
invariant-loop-i l = Combined max VARIABLES l.initial.exponents l.others l.exponents l.i
