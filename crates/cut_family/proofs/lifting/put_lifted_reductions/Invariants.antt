use Rattle.std.proofs.Common.{◌≡◌, ◌++◌, map, take}
use Rattle.cut_family.specs.Lifting.{lifted_reduction}
use Rattle.cut_family.proofs.lifting.put_lifted_reductions.Given as goal

abbrev pub invariant-loop-reduction : goal.invariant-loop-reduction
invariant-loop-reduction l = l.into.items ≡ l.fn.into.items ++ map (lifted_reduction l.n l.cut) (take l.reduction-index l.reductions)
