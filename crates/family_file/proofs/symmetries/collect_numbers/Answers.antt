use Rattle.std.proofs.lemmas.Result.{err_from_is_err_and}
use Rattle.toml.specs.View.{view}
use Rattle.family_file.specs.declared.fault.FileFault.TheVariants.{Symmetries}
use Rattle.family_file.specs.Arrays.{place_in}
use Rattle.family_file.proofs.Collect.{goes_on, stops, is_done}
use Rattle.family_file.proofs.symmetries.collect_numbers.Goals as goal

pub returns-in_err-number_in : goal.returns-in_err-number_in
returns-in_err-number_in c =
    let p = err_from_is_err_and c.from_residual.result c.from_residual.ensures.1 in
    rw (p.1, p.2) (stops view (place_in Symmetries c.args.n) c.loop-value.numbers.items c.args.values.now c.loop-value.value-index c.value-item.result _ _ c.loop-value-test.true c.value-item.is c.in_err-number_in.ensures c.loop-value.invariant)

pub loop-value-preserved : goal.loop-value-preserved
loop-value-preserved c =
    rw c.in_ok-push.ensures.items (goes_on view (place_in Symmetries c.args.n) c.loop-value.numbers.items c.args.values.now c.loop-value.value-index c.value-item.result _ _ c.loop-value-test.true c.value-item.is c.in_ok-number_in.ensures c.loop-value.invariant)

pub returns : goal.returns
returns c = is_done view (place_in Symmetries c.args.n) c.loop-value.numbers.items c.args.values.now c.loop-value.value-index _ c.loop-value-test.false c.loop-value.invariant
