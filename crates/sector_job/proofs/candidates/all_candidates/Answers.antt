use Rattle.std.proofs.Common.{List, sym, subst}
use Rattle.std.specs.List.{All}
use Rattle.family.specs.FamilyView.{family_view}
use Rattle.ibp_relation.specs.Templates.{FitsSeeds}
use Rattle.ibp_relation.specs.declared.affine.AffineTerm.{AffineTerm}
use Rattle.sector_job.proofs.FieldTemplates.{templates_fit}
use Rattle.sector_job.proofs.candidates.all_candidates.Goals as goal

pub candidates_of-requires-clause-fits : goal.candidates_of-requires-clause-fits
candidates_of-requires-clause-fits c =
    let family = c.args.family.now in
    subst (λ (templates : List (List AffineTerm)). All (All (FitsSeeds family.n)) templates) (sym c.deref.ensures.value)
    (templates_fit (family_view family) c.args.sector.0 c.args.fields.now c.in_ok-templates.templates.items c.in_ok-templates.ensures)
