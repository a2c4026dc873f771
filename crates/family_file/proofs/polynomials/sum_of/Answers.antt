use Rattle.family_file.proofs.PolynomialLimits.{sum_is}
use Rattle.family_file.proofs.polynomials.sum_of.Goals as goal

pub returns : goal.returns
returns c = sum_is c.in_ok-sum.sum c.args.terms.now c.in_ok-sum.ensures.canonical c.in_ok-sum.ensures.sum
