use Rattle.std.proofs.Common.{◌≡◌, ◌++◌, take}
use Rattle.row_echelon.specs.References.{rows_of}
use Rattle.relation_pick.specs.Picking.{rows_at}
use Rattle.neat_system.proofs.gathering.add_rows.Given as goal

abbrev pub invariant-loop-place : goal.invariant-loop-place
invariant-loop-place l = rows_of l.rows.items ≡ rows_of l.fn.rows.items ++ rows_at l.candidates (take l.place-index l.places)
