use Rattle.std.proofs.Common.{◌≡◌, ◌++◌, take}
use Rattle.std.specs.Prelude.{map}
use Rattle.sector_job.specs.Candidates.{labels}
use Rattle.neat_system.specs.Gathering.{label_views, label_at}
use Rattle.neat_system.proofs.labels.add_labels.Given as goal

abbrev pub invariant-loop-place : goal.invariant-loop-place
invariant-loop-place l = label_views l.found.items ≡ label_views l.fn.found.items ++ map (label_at (labels l.fields l.seeds)) (take l.place-index l.places)
