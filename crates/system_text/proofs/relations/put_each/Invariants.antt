use Rattle.std.proofs.Common.{◌≡◌, ◌++◌, ◌+◌, drop}
use Rattle.system_text.specs.Systems.{numbered, relation_text}
use Rattle.system_text.proofs.Numbered.{numbered_from}
use Rattle.system_text.proofs.relations.put_each.Given as goal

-- what is put so far, and the text of the relations that are left
abbrev pub invariant-loop-place : goal.invariant-loop-place
invariant-loop-place l = l.text.items ++ numbered_from relation_text (l.place + 1) (drop l.place l.relations) ≡ l.fn.text.items ++ numbered relation_text l.relations
