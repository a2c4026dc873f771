use Rattle.family.specs.FamilyView.{family_view}
use Rattle.sector_job.proofs.FieldTemplates.{ListsOf}
use Rattle.sector_job.proofs.candidates.candidates_of.Given as goal

abbrev pub invariant-loop-seed : goal.invariant-loop-seed
invariant-loop-seed l = ListsOf (family_view l.family) l.templates l.seeds l.seed-index l.rows.items
