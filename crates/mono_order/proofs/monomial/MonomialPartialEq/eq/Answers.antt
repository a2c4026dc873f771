use Rattle.std.proofs.Common.{◌∙◌}
use Rattle.ibp_algebra.specs.Exponents.{same_exponents}
use Rattle.mono_order.proofs.Equality.{words_equal}
use Rattle.mono_order.proofs.monomial.MonomialPartialEq.eq.Goals as goal

pub returns : goal.returns
returns c = words_equal _ _ _ _ _ _ c.self.invariant c.other.invariant ∙ (λ i. same_exponents (c.self.view_is i) (c.other.view_is i))
