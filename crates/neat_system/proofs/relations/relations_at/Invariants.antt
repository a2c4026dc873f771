use Rattle.std.proofs.Common.{◌≡◌, take}
use Rattle.std.specs.Prelude.{map}
use Rattle.row_echelon.specs.References.{rows_of}
use Rattle.neat_system.specs.System.{relation_at}
use Rattle.neat_system.specs.Gathering.{label_views}
use Rattle.neat_system.proofs.relations.relations_at.Given as goal

abbrev pub invariant-loop-place : goal.invariant-loop-place
invariant-loop-place l = l.relations.items ≡ map (relation_at (label_views l.labels) (rows_of l.candidates)) (take l.place-index l.places)
