use Rattle.std.proofs.Common.{◌≡◌, ◌++◌, take}
use Rattle.std.specs.List.{flat_map}
use Rattle.system_text.specs.Systems.{block_text}
use Rattle.system_text.proofs.blocks.put_each.Given as goal

abbrev pub invariant-loop-block : goal.invariant-loop-block
invariant-loop-block l = l.text.items ≡ l.fn.text.items ++ flat_map block_text (take l.block-index l.blocks)
