use Rattle.std.proofs.Common.{◌-◌, ◌≤◌}
use Rattle.neat_workers.specs.Portions.{ArePortions}
use Rattle.neat_workers.proofs.portions.portions_of.Given as goal

abbrev pub invariant-loop-first : goal.invariant-loop-first
invariant-loop-first l = (l.first ≤ l.count) × ArePortions 0 l.first l.portions.items

abbrev pub decreases-loop-first : goal.decreases-loop-first
decreases-loop-first l = l.count - l.first
