use Rattle.std.proofs.Common.{◌≡◌, take}
use Rattle.row_echelon.specs.Columns.{named}
use Rattle.row_echelon.proofs.columns.Columns.row_of.Given as goal

abbrev pub invariant-loop-number : goal.invariant-loop-number
invariant-loop-number l = l.named.items ≡ named l.self (take l.number-index l.terms)
