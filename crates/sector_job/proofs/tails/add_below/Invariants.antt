use Rattle.std.proofs.Common.{◌≡◌, ◌++◌, take}
use Rattle.sector_job.specs.Handing.{integrals_below}
use Rattle.sector_job.proofs.tails.add_below.Given as goal

abbrev pub invariant-loop-integral : goal.invariant-loop-integral
invariant-loop-integral l = l.found.items ≡ l.fn.found.items ++ integrals_below l.sector.0 (take l.integral-index l.integral-items)
