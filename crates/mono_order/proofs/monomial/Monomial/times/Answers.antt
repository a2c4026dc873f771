use Rattle.std.proofs.Common.{arith, refl}
use Rattle.ibp_algebra.proofs.SumOfExponents.{sum-add_exponents}
use Rattle.mono_order.proofs.monomial.Monomial.times.Goals as goal

pub returns-then-degree-gt-MONO_DEGREE-clause-none : goal.returns-then-degree-gt-MONO_DEGREE-clause-none
returns-then-degree-gt-MONO_DEGREE-clause-none c =
    (λ _. omega (arith, sum-add_exponents c.args.self.now c.args.other.now, c.degree.ensures.sum, c.degree-2.ensures.sum), λ _. refl)
