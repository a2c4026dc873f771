use Rattle.std.proofs.Common.{true≢false, sym, ◌∙◌}
use Rattle.family.specs.FamilyView.{family_view}
use Rattle.system_check.specs.Rightness.{IsRightField}
use Rattle.system_check.proofs.Firsts.{all_more, all_whole, first_here}
use Rattle.system_check.proofs.blocks.first_in_block.Goals as goal

pub returns-then-not-branch-clause-first : goal.returns-then-not-branch-clause-first
returns-then-not-branch-clause-first c =
    first_here (IsRightField (family_view c.args.family.now) c.args.sector) c.args.fields.now c.loop-place.place c.index-fields-place.result c.loop-place-test.true c.index-fields-place.is c.loop-place.invariant
    (λ is. true≢false (sym (c.in_ok-is_member.ensures.1 is) ∙ c.if-not-branch.true))

pub loop-place-preserved : goal.loop-place-preserved
loop-place-preserved c =
    all_more (IsRightField (family_view c.args.family.now) c.args.sector) c.args.fields.now c.loop-place.place c.index-fields-place.result c.loop-place-test.true c.index-fields-place.is c.loop-place.invariant
    (c.in_ok-is_member.ensures.0 c.if-not-branch.false)

pub returns-clause-none : goal.returns-clause-none
returns-clause-none c = λ _. all_whole (IsRightField (family_view c.args.family.now) c.args.sector) c.args.fields.now c.loop-place.place c.loop-place-test.false c.loop-place.invariant
