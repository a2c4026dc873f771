use Rattle.family.specs.FamilyView.{family_view}
use Rattle.sector_job.proofs.FieldTemplates.{FrontOf}
use Rattle.sector_job.proofs.candidates.candidates_at.Given as goal

abbrev pub invariant-loop-template : goal.invariant-loop-template
invariant-loop-template l = FrontOf (family_view l.family) l.templates l.seed l.template-index l.rows.items
