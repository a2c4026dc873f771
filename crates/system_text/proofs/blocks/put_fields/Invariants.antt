use Rattle.std.proofs.Common.{◌≡◌, ◌++◌, ◌+◌, drop}
use Rattle.system_text.specs.Systems.{numbered, field_text}
use Rattle.system_text.proofs.Numbered.{numbered_from}
use Rattle.system_text.proofs.blocks.put_fields.Given as goal

-- what is put so far, and the text of the fields that are left
abbrev pub invariant-loop-place : goal.invariant-loop-place
invariant-loop-place l = l.text.items ++ numbered_from field_text (l.place + 1) (drop l.place l.fields) ≡ l.fn.text.items ++ numbered field_text l.fields
