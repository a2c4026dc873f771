use Rattle.std.proofs.Common.{◌≡◌, ◌+◌, ◌-◌, length}
use Rattle.fast_division.specs.Ranks.{IsTable}
use Rattle.fast_division.proofs.ranks.Ranks.grow.Given as goal

abbrev pub invariant-rows : goal.invariant-rows
invariant-rows l =
    record {
      table : IsTable l.self-inside.variables l.self-inside.rows.items;
      variables : l.self-inside.variables ≡ l.fn.self.0;
    }

abbrev pub decreases-rows : goal.decreases-rows
decreases-rows l = l.degree + 2 - length l.self-inside.rows.items
