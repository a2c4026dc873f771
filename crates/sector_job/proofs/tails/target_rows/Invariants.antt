use Rattle.std.proofs.Common.{◌≡◌, map, take}
use Rattle.sector_job.specs.Candidates.{target_row}
use Rattle.sector_job.proofs.tails.target_rows.Given as goal

abbrev pub invariant-loop-target : goal.invariant-loop-target
invariant-loop-target l = l.rows.items ≡ map target_row (take l.target-index l.targets)
