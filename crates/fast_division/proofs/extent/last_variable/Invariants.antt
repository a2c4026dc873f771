use Rattle.std.proofs.Common.{◌≤◌, ◌-◌}
use Rattle.mono_order.specs.declared.limits.TheConstants.{VARIABLES}
use Rattle.fast_division.proofs.extent.last_variable.Given as goal

abbrev pub invariant-variables : goal.invariant-variables
invariant-variables l = 1 ≤ l.last

abbrev pub decreases-variables : goal.decreases-variables
decreases-variables l = VARIABLES - l.last
