use Rattle.std.proofs.Common.{◌∙◌, ◌/◌, sum, ap, sym}
use Rattle.mono_order.specs.declared.words.TheConstants.{BASE}
use Rattle.mono_order.proofs.Packing.{highest-is-sum}
use Rattle.mono_order.proofs.monomial.Monomial.degree.Goals as goal

pub returns-clause-sum : goal.returns-clause-sum
returns-clause-sum c =
    c.highest.ensures.value ∙ ap (λ w. w / BASE / BASE / BASE) (sym c.self.invariant.high_is) ∙ highest-is-sum _ c.self.invariant.is_monomial ∙ ap sum c.self.view_is
