use Rattle.sector_job.specs.Candidates.{target_row}
use Rattle.sector_job.proofs.Listing.{map_more, map_whole}
use Rattle.sector_job.proofs.tails.target_rows.Goals as goal

pub loop-target-preserved : goal.loop-target-preserved
loop-target-preserved c =
    map_more target_row c.args.targets.now c.loop-target.target-index c.target-item.result c.in_ok-row_of.field-0 c.loop-target.rows.items _ c.loop-target-test.true c.target-item.is
    c.in_ok-row_of.ensures c.in_ok-push.ensures.items c.loop-target.invariant

pub returns : goal.returns
returns c = map_whole target_row c.args.targets.now c.loop-target.target-index c.loop-target.rows.items c.loop-target-test.false c.loop-target.invariant
