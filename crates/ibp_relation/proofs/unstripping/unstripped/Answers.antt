use Rattle.std.proofs.Common.{◌+◌, ◌-◌, length, sym, subst, arith}
use Rattle.mono_order.specs.declared.limits.TheConstants.{RUN_DEGREE}
use Rattle.family.specs.Conditions.{in_sector}
use Rattle.family.specs.Shapes.{IsPolynomial}
use Rattle.ibp_relation.proofs.UnstrippedForms.{full_exponents, unstripped_step}
use Rattle.ibp_relation.proofs.unstripping.unstripped.Goals as goal

pub with_factor-requires-clause-each_variable : goal.with_factor-requires-clause-each_variable
with_factor-requires-clause-each_variable c =
    let n = length c.args.c.now in
    full_exponents n RUN_DEGREE c.index-c-place.result
    (subst (IsPolynomial n RUN_DEGREE) (sym c.index-c-place.is) (c.requires.polynomials c.loop-place.place c.index-c-place.result c.loop-place-test.true))

pub loop-place-preserved : goal.loop-place-preserved
loop-place-preserved c =
    let place = c.loop-place.place in
    unstripped_step (in_sector c.args.sector.0) c.args.c.now c.loop-place.a.items _ c.in_ok-with_factor.field-0 c.index-c-place.result place (place + 1 - 1)
    c.loop-place-test.true c.index-c-place.is (omega arith) c.in_ok-with_factor.ensures c.in_ok-push.ensures.items c.loop-place.invariant
