use Rattle.std.proofs.Common.{◌≡◌, take}
use Rattle.sector_lattice.specs.Sectors.{dots_of}
use Rattle.sector_job.specs.Candidates.{greatest}
use Rattle.sector_job.proofs.bounds.greatest_dots.Given as goal

abbrev pub invariant-loop-target : goal.invariant-loop-target
invariant-loop-target l = l.most ≡ greatest dots_of (take l.target-index l.targets)
