use Rattle.std.proofs.Common.{true≢false, sym, ◌∙◌}
use Rattle.family.specs.FamilyView.{family_view}
use Rattle.system_check.specs.Rightness.{IsRightReduction}
use Rattle.system_check.proofs.Firsts.{all_more, all_whole, first_here}
use Rattle.system_check.proofs.reductions.first_unreduced.Goals as goal

pub returns-then-not-branch-clause-first : goal.returns-then-not-branch-clause-first
returns-then-not-branch-clause-first c =
    first_here (IsRightReduction (family_view c.args.family.now) c.args.relations.now) c.args.reductions.now c.loop-place.place c.index-reductions-place.result c.loop-place-test.true c.index-reductions-place.is c.loop-place.invariant
    (λ is. true≢false (sym (c.in_ok-is_reduction.ensures.1 is) ∙ c.if-not-branch.true))

pub loop-place-preserved : goal.loop-place-preserved
loop-place-preserved c =
    all_more (IsRightReduction (family_view c.args.family.now) c.args.relations.now) c.args.reductions.now c.loop-place.place c.index-reductions-place.result c.loop-place-test.true c.index-reductions-place.is c.loop-place.invariant
    (c.in_ok-is_reduction.ensures.0 c.if-not-branch.false)

pub returns-clause-none : goal.returns-clause-none
returns-clause-none c = λ _. all_whole (IsRightReduction (family_view c.args.family.now) c.args.relations.now) c.args.reductions.now c.loop-place.place c.loop-place-test.false c.loop-place.invariant
