use Rattle.std.proofs.Common.{IsNone, rules}
use Rattle.family.specs.FamilyView.{family_view}
use Rattle.system_check.specs.Rightness.{IsRightBlock}
use Rattle.system_check.proofs.Firsts.{all_more, all_whole, field_here}
use Rattle.system_check.proofs.blocks.first_outside.Goals as goal

pub returns-in-Some-clause-first : goal.returns-in-Some-clause-first
returns-in-Some-clause-first c =
    field_here (family_view c.args.family.now) c.args.blocks.now c.loop-block.block-index c.block-item.result c.as_slice.result.now c.in-Some.number c.loop-block-test.true c.block-item.is c.as_slice.ensures
    c.loop-block.invariant (rw c.in-Some.is at c.in_ok-outside.ensures.first)

pub loop-block-preserved : goal.loop-block-preserved
loop-block-preserved c =
    let none : IsNone c.in_ok-outside.outside = search rules in
    all_more (IsRightBlock (family_view c.args.family.now)) c.args.blocks.now c.loop-block.block-index c.block-item.result c.loop-block-test.true c.block-item.is c.loop-block.invariant
    (rw c.as_slice.ensures at (c.in_ok-outside.ensures.none none))

pub returns-clause-none : goal.returns-clause-none
returns-clause-none c = λ _. all_whole (IsRightBlock (family_view c.args.family.now)) c.args.blocks.now c.loop-block.block-index c.loop-block-test.false c.loop-block.invariant
