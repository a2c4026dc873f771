use Rattle.std.proofs.Common.{◌≡◌, take, not}
use Rattle.std.specs.Prelude.{filter}
use Rattle.sparse_rows.specs.Rows.{is_zero_integral}
use Rattle.neat_system.proofs.declared.opening_targets.Given as goal

abbrev pub invariant-loop-target : goal.invariant-loop-target
invariant-loop-target l = l.targets.items ≡ filter (λ target. not (is_zero_integral l.family.zero target)) (take l.target-index l.target-items)
