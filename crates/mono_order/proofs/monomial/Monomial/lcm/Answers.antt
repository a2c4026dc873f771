use Rattle.std.proofs.Common.{◌≡◌, ◌∙◌, ◌<◌, List, ℕ, length, sum, ap, subst}
use Rattle.std.specs.Prelude.{◌↔◌, IsNone, IfSome}
use Rattle.mono_order.specs.declared.limits.TheConstants.{VARIABLES, MONO_DEGREE}
use Rattle.mono_order.specs.Term.{lcm_exponents}
use Rattle.mono_order.proofs.Places.{lcm_whole}
use Rattle.mono_order.proofs.monomial.Monomial.lcm.Goals as goal

pub returns-clause-none : goal.returns-clause-none
returns-clause-none c =
    let whole =
    lcm_whole VARIABLES _ _ _ _ (ap length c.exponents-exponents.ensures.value ∙ c.exponents-exponents.ensures.kept.each_variable) (ap length c.exponents-others.ensures.value ∙ c.exponents-others.ensures.kept.each_variable) c.loop-i-test.false c.loop-i.invariant
    ∙ (λ i. lcm_exponents (c.exponents-exponents.ensures.value i) (c.exponents-others.ensures.value i))
    in
    subst (λ (m : List ℕ). IsNone c.from_exponents.result ↔ (MONO_DEGREE < sum m)) whole c.from_exponents.ensures.none

pub returns-clause-multiple : goal.returns-clause-multiple
returns-clause-multiple c =
    let whole =
    lcm_whole VARIABLES _ _ _ _ (ap length c.exponents-exponents.ensures.value ∙ c.exponents-exponents.ensures.kept.each_variable) (ap length c.exponents-others.ensures.value ∙ c.exponents-others.ensures.kept.each_variable) c.loop-i-test.false c.loop-i.invariant
    ∙ (λ i. lcm_exponents (c.exponents-exponents.ensures.value i) (c.exponents-others.ensures.value i))
    in
    subst (λ (m : List ℕ). IfSome c.from_exponents.result (λ r. r ≡ m)) whole c.from_exponents.ensures.value
