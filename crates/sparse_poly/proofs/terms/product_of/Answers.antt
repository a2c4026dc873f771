use Rattle.std.proofs.lemmas.Result.{IfOk-weaker}
use Rattle.ibp_algebra.proofs.SumLaws.{SameCoefficients-trans}
use Rattle.ibp_algebra.proofs.PolynomialLaws.{multiply_comm}
use Rattle.sparse_poly.proofs.terms.product_of.Goals as goal

pub returns-else-left-right-clause-product : goal.returns-else-left-right-clause-product
returns-else-left-right-clause-product c =
    IfOk-weaker c.product_by_halves-else-left-right.result _ _ (λ v h. SameCoefficients-trans h (multiply_comm c.args.right.now c.args.left.now)) c.product_by_halves-else-left-right.ensures.product
