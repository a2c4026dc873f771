use Rattle.std.proofs.Common.{◌∙◌, ◌+◌, sum, ap, arith}
use Rattle.ibp_algebra.specs.Exponents.{add_exponents}
use Rattle.mono_order.specs.PartialSums.{exponents_of}
use Rattle.mono_order.proofs.Packing.{IsProduct, product_words}
use Rattle.mono_order.proofs.monomial.Monomial.product.Goals as goal

product : (c : goal.After-other) → IsProduct (exponents_of c.self.inside.low c.self.inside.middle c.self.inside.high) (exponents_of c.other.inside.low c.other.inside.middle c.other.inside.high) (c.self.inside.low + c.other.inside.low) (c.self.inside.middle + c.other.inside.middle) (c.self.inside.high + c.other.inside.high)
product c =
    product_words _ _ _ _ _ _ c.self.invariant c.other.invariant (omega (arith, ap sum c.self.view_is, ap sum c.other.view_is, c.requires))

pub overflow_add-result : goal.overflow_add-result
overflow_add-result c = omega (arith, (product c).low_fits)

pub overflow_add-result-2 : goal.overflow_add-result-2
overflow_add-result-2 c = omega (arith, (product c).middle_fits)

pub overflow_add-result-3 : goal.overflow_add-result-3
overflow_add-result-3 c = omega (arith, (product c).high_fits)

pub invariant_of-result : goal.invariant_of-result
invariant_of-result c = (product c).kept

pub returns-clause-product : goal.returns-clause-product
returns-clause-product c = (product c).value ∙ (λ i. add_exponents (c.self.view_is i) (c.other.view_is i))
