use Rattle.std.proofs.Common.{drop}
use Rattle.std.specs.Prelude.{◌↔◌}
use Rattle.system_text.specs.SystemValues.{Ascend}
use Rattle.system_text.proofs.read_reductions.ascend.Given as goal

abbrev pub invariant-loop-weight : goal.invariant-loop-weight
invariant-loop-weight l = Ascend 0 l.weights ↔ Ascend l.last (drop l.weight-index l.weights)
