use Rattle.family.specs.FamilyView.{family_view}
use Rattle.sector_job.proofs.FieldTemplates.{lists_of_more, lists_of_whole}
use Rattle.sector_job.proofs.candidates.candidates_of.Goals as goal

pub loop-seed-preserved : goal.loop-seed-preserved
loop-seed-preserved c =
    lists_of_more (family_view c.args.family.now) c.args.templates.now c.args.seeds.now c.loop-seed.seed-index c.seed-item.result c.loop-seed.rows.items c.in_ok-more.more.items _ c.loop-seed-test.true
    c.seed-item.is c.in_ok-more.ensures c.in_ok-append.ensures.items c.loop-seed.invariant

pub returns : goal.returns
returns c = lists_of_whole (family_view c.args.family.now) c.args.templates.now c.args.seeds.now c.loop-seed.seed-index c.loop-seed.rows.items c.loop-seed-test.false c.loop-seed.invariant
