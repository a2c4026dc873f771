use Rattle.std.proofs.Common.{◌≡◌, take}
use Rattle.std.specs.List.{flat_map}
use Rattle.sector_job.specs.Handing.{integrals_below}
use Rattle.sector_job.proofs.tails.all_below.Given as goal

abbrev pub invariant-loop-form : goal.invariant-loop-form
invariant-loop-form l = l.found.items ≡ flat_map (integrals_below l.sector.0) (take l.form-index l.forms)
