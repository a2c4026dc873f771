use Rattle.std.proofs.Common.{◌≡◌, ◌-◌, ◌≤◌, length, get_or, sym, refl, ap, arith}
use Rattle.std.proofs.Math.ListN.{drop_of_length-le}
use Rattle.mono_order.specs.declared.limits.TheConstants.{VARIABLES}
use Rattle.fast_division.specs.LeadIndex.{support_mask}
use Rattle.fast_division.proofs.Masks.{support_small, support_more}
use Rattle.fast_division.proofs.index.support.Goals as goal

pub loop-i-init : goal.loop-i-init
loop-i-init c =
    let long : length c.args.monomial.now ≡ VARIABLES = c.exponents-exponents.ensures.kept.each_variable in
    let done : length c.args.monomial.now ≤ VARIABLES = omega (arith, long) in
    (omega arith, ap support_mask (sym (drop_of_length-le c.args.monomial.now done)))

pub overflow_mul-mask : goal.overflow_mul-mask
overflow_mul-mask c =
    let long : length c.args.monomial.now ≡ VARIABLES = c.exponents-exponents.ensures.kept.each_variable in
    omega (arith, c.loop-i.invariant.1, support_small c.args.monomial.now c.loop-i.i c.loop-i-test.true (omega (arith, long)))

pub overflow_add-mask : goal.overflow_add-mask
overflow_add-mask c =
    let long : length c.args.monomial.now ≡ VARIABLES = c.exponents-exponents.ensures.kept.each_variable in
    omega (arith, c.loop-i.invariant.1, c.min.ensures, support_small c.args.monomial.now c.loop-i.i c.loop-i-test.true (omega (arith, long)))

pub loop-i-preserved : goal.loop-i-preserved
loop-i-preserved c =
    let m = c.args.monomial.now in
    let i = c.loop-i.i in
    let long : length m ≡ VARIABLES = c.exponents-exponents.ensures.kept.each_variable in
    let more = support_more m i (get_or m (i - 1) 0) c.loop-i-test.true (omega (arith, long, c.loop-i.invariant.0)) refl in
    (omega (arith, c.loop-i.invariant.0), omega (arith, more, c.loop-i.invariant.1, c.min.ensures, ap (λ l. get_or l (i - 1) 0) c.exponents-exponents.ensures.value))
