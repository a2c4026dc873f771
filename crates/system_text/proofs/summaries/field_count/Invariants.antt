use Rattle.std.proofs.Common.{◌≡◌, ◌≤◌, ◌*◌, ◌^◌, take}
use Rattle.system_text.specs.Summaries.{field_count}
use Rattle.system_text.proofs.summaries.field_count.Given as goal

abbrev pub invariant-loop-block : goal.invariant-loop-block
invariant-loop-block l = record {
  sum : l.count ≡ field_count (take l.block-index l.blocks);
  small : l.count ≤ l.block-index * 2 ^ 64;
}
