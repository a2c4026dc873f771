use Rattle.std.proofs.Common.{◌≡◌, ◌++◌, take, codes}
use Rattle.std.specs.List.{flat_map}
use Rattle.system_text.specs.Systems.{weight_text}
use Rattle.system_text.proofs.reductions.put_more_weights.Given as goal

abbrev pub invariant-loop-weight : goal.invariant-loop-weight
invariant-loop-weight l = l.text.items ≡ l.fn.text.items ++ flat_map (λ weight. codes " " ++ weight_text weight) (take l.weight-index l.weights)
