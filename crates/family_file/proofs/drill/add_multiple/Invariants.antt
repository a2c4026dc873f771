use Rattle.std.proofs.Common.{◌≡◌, ◌++◌, map, take}
use Rattle.ibp_field.specs.Arithmetic.{mul_mod}
use Rattle.ibp_algebra.specs.Exponents.{add_exponents}
use Rattle.family_file.proofs.drill.add_multiple.Given as goal

abbrev pub invariant-loop-monomial : goal.invariant-loop-monomial
invariant-loop-monomial l = l.into.items ≡ l.fn.into.items ++ map (λ r. (add_exponents l.left.0 r.0, mul_mod l.factor (mul_mod l.left.1 r.1))) (take l.monomial-index l.right)
