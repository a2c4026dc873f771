use Rattle.std.proofs.Common.{◌≡◌, ◌≤◌, ◌*◌, ◌^◌, take}
use Rattle.system_text.specs.Summaries.{term_count}
use Rattle.system_text.proofs.summaries.term_count.Given as goal

abbrev pub invariant-loop-relation : goal.invariant-loop-relation
invariant-loop-relation l = record {
  sum : l.count ≡ term_count (take l.relation-index l.relations);
  small : l.count ≤ l.relation-index * 2 ^ 64;
}
