use Rattle.std.proofs.Common.{◌≡◌, ◌++◌, map, take}
use Rattle.cut_family.specs.Lifting.{lifted_field}
use Rattle.cut_family.proofs.lifting.put_lifted_fields.Given as goal

abbrev pub invariant-loop-field : goal.invariant-loop-field
invariant-loop-field l = l.into.items ≡ l.fn.into.items ++ map (lifted_field l.n l.cut) (take l.field-index l.fields)
