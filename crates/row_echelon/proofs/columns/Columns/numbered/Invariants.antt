use Rattle.std.proofs.Common.{◌≡◌, take}
use Rattle.row_echelon.specs.Columns.{named, HasColumns}
use Rattle.row_echelon.proofs.columns.Columns.numbered.Given as goal

abbrev pub invariant-loop-integral : goal.invariant-loop-integral
invariant-loop-integral l =
    record {
      within : HasColumns l.self l.terms.items;
      same : named l.self l.terms.items ≡ take l.integral-index l.integral-items;
    }
