use Rattle.std.proofs.Common.{◌<◌, ◌≤◌, ◌-◌, ◌∙◌, length, get_or, sum, ap, arith}
use Rattle.std.proofs.lemmas.List.Elements.{All-get_or}
use Rattle.ibp_algebra.specs.Exponents.{permute_exponents}
use Rattle.ibp_algebra.proofs.Permuting.{Replaced-step, Replaced-end}
use Rattle.mono_order.specs.declared.limits.TheConstants.{VARIABLES}
use Rattle.mono_order.proofs.monomial.Monomial.permuted.Goals as goal

pub loop-i-preserved : goal.loop-i-preserved
loop-i-preserved c =
    let i = c.loop-i.i in
    let within : i < length c.args.to.now = omega arith in
    let number : (0 < get_or c.args.to.now i 0) × (get_or c.args.to.now i 0 ≤ VARIABLES) = All-get_or (λ number. (0 < number) × (number ≤ VARIABLES)) c.args.to.now i 0 within c.requires in
    let place : get_or c.args.to.now i 0 - 1 < VARIABLES = omega (arith, number.0, number.1) in
    Replaced-step VARIABLES c.args.to.now c.exponents-from.result c.loop-i.exponents i within (omega (arith, ap length c.exponents-from.ensures.value, c.exponents-from.ensures.kept.each_variable)) place c.loop-i.invariant

pub packed-requires : goal.packed-requires
packed-requires c =
    let whole = Replaced-end VARIABLES c.args.to.now c.exponents-from.result c.loop-i.exponents c.loop-i.i (omega arith) (omega (arith, ap length c.exponents-from.ensures.value, c.exponents-from.ensures.kept.each_variable)) c.loop-i.invariant in
    omega (arith, whole.1, ap sum c.exponents-from.ensures.value, c.exponents-from.ensures.kept.bounded)

pub returns : goal.returns
returns c =
    let whole = Replaced-end VARIABLES c.args.to.now c.exponents-from.result c.loop-i.exponents c.loop-i.i (omega arith) (omega (arith, ap length c.exponents-from.ensures.value, c.exponents-from.ensures.kept.each_variable)) c.loop-i.invariant in
    c.packed.ensures ∙ whole.0 ∙ ap (permute_exponents c.args.to.now) c.exponents-from.ensures.value
