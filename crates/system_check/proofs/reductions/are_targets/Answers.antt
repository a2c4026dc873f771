use Rattle.std.proofs.Common.{true≢false, sym, ap, ◌∙◌, arith, ◌<◌, length, get_or}
use Rattle.system_text.specs.declared.value.Reduction.{Reduction}
use Rattle.system_check.proofs.Reduced.{target_more, target_other, integral_differs, integral_same}
use Rattle.system_check.proofs.reductions.are_targets.Goals as goal

pub returns-then-ne : goal.returns-then-ne
returns-then-ne c =
    let reductions = c.args.reductions.now in
    let place = c.loop-place.place in
    let r = c.index-reductions-place.result in
    let target = c.index-targets-place.result in
    let within : place < length reductions = omega arith in
    let differ = integral_differs (get_or reductions place r).target target c.ne.result c.ne.ensures c.if-ne.true in (
      λ e. absurd (true≢false (sym e)),
      λ same. absurd (target_other reductions c.args.targets.now place r target within c.index-reductions-place.is c.index-targets-place.is
          (λ e. differ (sym (ap (λ (s : Reduction). s.target) c.index-reductions-place.is) ∙ e)) same),
    )

pub loop-place-preserved : goal.loop-place-preserved
loop-place-preserved c =
    let reductions = c.args.reductions.now in
    let place = c.loop-place.place in
    let r = c.index-reductions-place.result in
    let target = c.index-targets-place.result in
    let within : place < length reductions = omega arith in
    let same = integral_same (get_or reductions place r).target target c.ne.result c.ne.ensures c.if-ne.false in
    target_more reductions c.args.targets.now place r target within c.loop-place-test.true c.index-reductions-place.is c.index-targets-place.is
    (ap (λ (s : Reduction). s.target) c.index-reductions-place.is ∙ same) c.loop-place.invariant
