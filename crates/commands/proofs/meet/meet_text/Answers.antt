use Rattle.family.specs.FamilyView.{family_view}
use Rattle.commands.proofs.OfMeet.{sectors_within}
use Rattle.commands.proofs.MeetBlocks.{answers_meet}
use Rattle.commands.proofs.meet.meet_text.Goals as goal

pub meet_sectors-requires : goal.meet_sectors-requires
meet_sectors-requires c = record { some = c.args.family.now.limits.some_variables; few = c.args.family.now.limits.few_variables; within = c.requires }

pub blocks_text-requires-clause-within : goal.blocks_text-requires-clause-within
blocks_text-requires-clause-within c = rw c.deref.ensures.value (sectors_within c.args.family.now.n c.args.number c.in_ok-sectors.sectors.items c.in_ok-sectors.ensures)

pub returns : goal.returns
returns c =
    let done = c.in-Ok.ensures.done in
    answers_meet (family_view c.args.family.now) c.args.number c.in-Ok.tangent (record { elements = done.0; taken = done.1; done = done.2; basis = c.in-Ok.ensures.basis }) c.in_ok-sectors.sectors.items c.in_ok-sectors.ensures c.blocks_text.result
    (rw c.deref.ensures.value at c.blocks_text.ensures.blocks) (rw c.deref.ensures.value at c.blocks_text.ensures.met) (rw c.deref.ensures.value at c.blocks_text.ensures.refused)
