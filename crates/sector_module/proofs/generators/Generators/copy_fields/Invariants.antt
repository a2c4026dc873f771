use Rattle.std.proofs.Common.{◌≡◌, take}
use Rattle.sector_module.proofs.generators.Generators.copy_fields.Given as goal

abbrev pub invariant-loop-field : goal.invariant-loop-field
invariant-loop-field l = l.fields.items ≡ take l.field-index l.self.fields
