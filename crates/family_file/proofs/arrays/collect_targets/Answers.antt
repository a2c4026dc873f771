use Rattle.std.proofs.Common.{◌≡◌, ◌∙◌, ap, refl, map, rules}
use Rattle.std.proofs.lemmas.Result.{err_from_is_err_and}
use Rattle.toml.specs.View.{view}
use Rattle.indexmap.specs.IndexSet.{insert_key, insert_all}
use Rattle.family_file.specs.declared.fault.FileFault.TheVariants.{Targets}
use Rattle.family_file.specs.Reading.{collect}
use Rattle.family_file.specs.Accumulated.{into}
use Rattle.family_file.specs.Arrays.{powers_in}
use Rattle.family_file.proofs.FirstOccurrences.{same_integral, put_in_turn}
use Rattle.family_file.proofs.Into.{goes_on_at, fails_at, is_done_at}
use Rattle.family_file.proofs.arrays.collect_targets.Goals as goal

pub loop-value-init : goal.loop-value-init
loop-value-init c =
    let read = collect (powers_in Targets c.args.n) (map view c.args.values.now) in
    ap (λ seen. into (insert_all same_integral) seen read) c.new-targets.ensures.empty ∙ put_in_turn read

pub returns-in_err-target : goal.returns-in_err-target
returns-in_err-target c =
    let p = err_from_is_err_and c.from_residual.result c.from_residual.ensures.1 in
    rw (p.1, p.2) (fails_at view (insert_all same_integral) (powers_in Targets c.args.n) c.loop-value.targets.keys c.args.values.now c.loop-value.value-index c.value-item.result _ _ c.loop-value-test.true c.value-item.is c.in_err-target.ensures c.loop-value.invariant)

pub loop-value-preserved : goal.loop-value-preserved
loop-value-preserved c =
    rw c.in_ok-insert.ensures.keys (goes_on_at view (insert_all same_integral) (insert_key same_integral) (λ s y ys. refl) (powers_in Targets c.args.n) c.loop-value.targets.keys c.args.values.now c.loop-value.value-index c.value-item.result _ _ c.loop-value-test.true c.value-item.is c.in_ok-target.ensures c.loop-value.invariant)

pub returns : goal.returns
returns c =
    let kept : c.in_ok-to_vec.field-0.items ≡ c.loop-value.targets.keys = search rules in
    rw kept (is_done_at view (insert_all same_integral) (powers_in Targets c.args.n) c.loop-value.targets.keys c.args.values.now c.loop-value.value-index _ refl c.loop-value-test.false c.loop-value.invariant)
