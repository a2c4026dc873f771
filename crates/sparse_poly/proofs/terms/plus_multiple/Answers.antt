use Rattle.std.specs.Ordering.{eq_by_cmp}
use Rattle.std.proofs.lemmas.Result.{IfOk-weaker}
use Rattle.ibp_algebra.proofs.SumLaws.{SameCoefficients-retest}
use Rattle.ibp_algebra.proofs.Members.{order_decides}
use Rattle.ibp_algebra.specs.Exponents.{same_exponents, deg_rev_lex}
use Rattle.ibp_algebra.specs.ExponentOrder.{exponents_decide, deg_rev_lex_total, deg_rev_lex_unique}
use Rattle.sparse_poly.proofs.terms.plus_multiple.Goals as goal

pub returns-clause-sum : goal.returns-clause-sum
returns-clause-sum c =
    IfOk-weaker c.add_multiple.result _ _
    (λ v h. SameCoefficients-retest (eq_by_cmp deg_rev_lex) same_exponents (order_decides deg_rev_lex deg_rev_lex_total deg_rev_lex_unique) exponents_decide h)
    c.add_multiple.ensures.sum
