use Rattle.std.proofs.Common.{◌≡◌, ◌<◌, take}
use Rattle.mono_order.specs.Monomial.{IsMonomial}
use Rattle.cut_family.proofs.polynomials.exponents_of.Given as goal

abbrev pub invariant-loop-i : goal.invariant-loop-i
invariant-loop-i l = (l.exponents.items ≡ take l.i l.monomial) × (0 < l.i → IsMonomial l.monomial)
