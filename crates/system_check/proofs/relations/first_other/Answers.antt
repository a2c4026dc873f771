use Rattle.std.proofs.Common.{true≢false, sym, ◌∙◌}
use Rattle.family.specs.FamilyView.{family_view}
use Rattle.system_check.specs.Rightness.{IsRightRelation}
use Rattle.system_check.proofs.Firsts.{all_more, all_whole, first_here}
use Rattle.system_check.proofs.relations.first_other.Goals as goal

pub returns-then-not-branch-clause-first : goal.returns-then-not-branch-clause-first
returns-then-not-branch-clause-first c =
    first_here (IsRightRelation (family_view c.args.family.now) c.args.blocks.now) c.args.relations.now c.loop-place.place c.index-relations-place.result c.loop-place-test.true c.index-relations-place.is c.loop-place.invariant
    (λ is. true≢false (sym (c.in_ok-is_identity.ensures.1 is) ∙ c.if-not-branch.true))

pub loop-place-preserved : goal.loop-place-preserved
loop-place-preserved c =
    all_more (IsRightRelation (family_view c.args.family.now) c.args.blocks.now) c.args.relations.now c.loop-place.place c.index-relations-place.result c.loop-place-test.true c.index-relations-place.is c.loop-place.invariant
    (c.in_ok-is_identity.ensures.0 c.if-not-branch.false)

pub returns-clause-none : goal.returns-clause-none
returns-clause-none c = λ _. all_whole (IsRightRelation (family_view c.args.family.now) c.args.blocks.now) c.args.relations.now c.loop-place.place c.loop-place-test.false c.loop-place.invariant
