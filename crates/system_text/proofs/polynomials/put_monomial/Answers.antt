use Rattle.std.proofs.Common.{◌≡◌, ◌≤◌, length, arith}
use Rattle.mono_order.specs.declared.limits.TheConstants.{VARIABLES}
use Rattle.mono_order.specs.Monomial.{IsMonomial}
use Rattle.system_text.proofs.Powers.{put_next, put_all}
use Rattle.system_text.proofs.polynomials.put_monomial.Goals as goal

pub loop-i-preserved : goal.loop-i-preserved
loop-i-preserved c =
    let m = c.args.monomial.now in
    let kept : IsMonomial m = c.exponent.ensures.kept in
    let long : length m ≡ VARIABLES = kept.each_variable in
    let high : c.loop-i.i ≤ length m = omega (arith, long, c.loop-i-test.true) in
    record {
      put = put_next _ _ _ m c.loop-i.i c.loop-i.auto.i high c.loop-i.invariant.put (rw c.exponent.ensures.value at c.in_ok-put_power.ensures);
      known = λ _. kept;
    }

pub returns : goal.returns
returns c =
    let m = c.args.monomial.now in
    let kept : IsMonomial m = c.loop-i.invariant.known (omega (arith, c.loop-i-test.false)) in
    let long : length m ≡ VARIABLES = kept.each_variable in
    put_all _ _ m c.loop-i.i (omega (arith, long, c.loop-i-test.false)) c.loop-i.invariant.put
