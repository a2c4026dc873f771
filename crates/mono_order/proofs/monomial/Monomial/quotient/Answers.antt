use Rattle.std.proofs.Common.{◌∙◌}
use Rattle.mono_order.specs.Term.{divides_exponents, quotient_exponents}
use Rattle.mono_order.proofs.Packing.{IsQuotient, quotient_words}
use Rattle.mono_order.proofs.monomial.Monomial.quotient.Goals as goal

quotient : (c : goal.After-by) → IsQuotient c.self.inside.low c.self.inside.middle c.self.inside.high c.by.inside.low c.by.inside.middle c.by.inside.high
quotient c = quotient_words _ _ _ _ _ _ c.self.invariant c.by.invariant ((λ i. divides_exponents (c.by.view_is i) (c.self.view_is i)) ∙ c.requires)

pub overflow_sub-result : goal.overflow_sub-result
overflow_sub-result c = (quotient c).low

pub overflow_sub-result-2 : goal.overflow_sub-result-2
overflow_sub-result-2 c = (quotient c).middle

pub overflow_sub-result-3 : goal.overflow_sub-result-3
overflow_sub-result-3 c = (quotient c).high

pub invariant_of-result : goal.invariant_of-result
invariant_of-result c = (quotient c).kept

pub returns : goal.returns
returns c = (quotient c).value ∙ (λ i. quotient_exponents (c.self.view_is i) (c.by.view_is i))
