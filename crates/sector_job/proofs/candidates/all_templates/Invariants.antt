use Rattle.std.proofs.Common.{take}
use Rattle.family.specs.FamilyView.{family_view}
use Rattle.sector_job.specs.FieldTemplates.{AreTemplates}
use Rattle.sector_job.proofs.candidates.all_templates.Given as goal

abbrev pub invariant-loop-field : goal.invariant-loop-field
invariant-loop-field l = AreTemplates (family_view l.family) l.sector.0 (take l.field-index l.fields) l.templates.items
