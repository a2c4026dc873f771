use Rattle.std.proofs.Common.{◌≡◌, ◌++◌, map, take}
use Rattle.cut_family.specs.Lifting.{lifted_block}
use Rattle.cut_family.proofs.lifting.put_lifted_blocks.Given as goal

abbrev pub invariant-loop-block : goal.invariant-loop-block
invariant-loop-block l = l.into.items ≡ l.fn.into.items ++ map (lifted_block l.n l.cut) (take l.block-index l.blocks)
