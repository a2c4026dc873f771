use Rattle.sector_job.proofs.HandedDown.{one_row}
use Rattle.sector_job.proofs.tails.row_of.Goals as goal

pub returns : goal.returns
returns c = one_row c.in_ok-row.row c.args.target.now c.one.result c.one.ensures c.in_ok-row.ensures.canonical c.in_ok-row.ensures.sum
