use Rattle.std.proofs.lemmas.Result.{err_from_is_err_and}
use Rattle.toml.specs.View.{view}
use Rattle.family_file.specs.Polynomials.{polynomial_value}
use Rattle.family_file.proofs.Collect.{goes_on, fails, is_done}
use Rattle.family_file.proofs.polynomials.collect_polynomials.Goals as goal

pub returns-in_err-polynomial_value : goal.returns-in_err-polynomial_value
returns-in_err-polynomial_value c =
    let p = err_from_is_err_and c.from_residual.result c.from_residual.ensures.1 in
    rw (p.1, p.2) (fails view (polynomial_value c.args.fault c.args.n c.args.numbers.now) c.loop-value.polynomials.items c.args.values.now c.loop-value.value-index c.value-item.result _ _ c.loop-value-test.true c.value-item.is c.in_err-polynomial_value.ensures c.loop-value.invariant)

pub loop-value-preserved : goal.loop-value-preserved
loop-value-preserved c =
    rw c.in_ok-push.ensures.items (goes_on view (polynomial_value c.args.fault c.args.n c.args.numbers.now) c.loop-value.polynomials.items c.args.values.now c.loop-value.value-index c.value-item.result _ _ c.loop-value-test.true c.value-item.is c.in_ok-polynomial_value.ensures c.loop-value.invariant)

pub returns : goal.returns
returns c = is_done view (polynomial_value c.args.fault c.args.n c.args.numbers.now) c.loop-value.polynomials.items c.args.values.now c.loop-value.value-index _ c.loop-value-test.false c.loop-value.invariant
