use Rattle.std.proofs.Common.{◌≡◌, ◌++◌, take}
use Rattle.std.specs.List.{flat_map}
use Rattle.system_text.specs.Systems.{reduction_text}
use Rattle.system_text.proofs.reductions.put_each.Given as goal

abbrev pub invariant-loop-reduction : goal.invariant-loop-reduction
invariant-loop-reduction l = l.text.items ≡ l.fn.text.items ++ flat_map reduction_text (take l.reduction-index l.reductions)
