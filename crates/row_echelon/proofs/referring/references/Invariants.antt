use Rattle.std.proofs.Common.{◌≡◌, take}
use Rattle.row_echelon.specs.References.{rows_of}
use Rattle.row_echelon.proofs.referring.references.Given as goal

abbrev pub invariant-loop-row : goal.invariant-loop-row
invariant-loop-row l = rows_of l.found.items ≡ take l.row-index l.rows
