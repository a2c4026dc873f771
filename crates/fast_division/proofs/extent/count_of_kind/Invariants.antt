use Rattle.std.proofs.Common.{◌≡◌, ◌+◌, ◌-◌, ◌<◌, ◌≤◌, ℕ}
use Rattle.fast_division.proofs.extent.count_of_kind.Given as goal

abbrev pub invariant-components : goal.invariant-components
invariant-components g l = (c : ℕ) → l.first ≤ c → c < l.first + l.count → g.O.TermOrder.high c ≡ g.O.TermOrder.high l.first

abbrev pub decreases-components : goal.decreases-components
decreases-components g l = 255 - l.count
