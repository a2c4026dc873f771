use Rattle.std.proofs.Common.{sym, subst, arith}
use Rattle.std.specs.Prelude.{List}
use Rattle.std.specs.List.{All}
use Rattle.family.specs.FamilyView.{family_view}
use Rattle.ibp_relation.specs.declared.affine.AffineTerm.{AffineTerm}
use Rattle.ibp_relation.specs.Templates.{FitsSeeds}
use Rattle.sector_job.proofs.FieldTemplates.{front_of_more, front_of_whole}
use Rattle.sector_job.proofs.candidates.candidates_at.Goals as goal

pub candidate-requires-clause-fits : goal.candidate-requires-clause-fits
candidate-requires-clause-fits c =
    subst (λ (terms : List AffineTerm). All (FitsSeeds c.args.family.now.n) terms) (sym c.template-item.is)
    (c.requires.fits c.loop-template.template-index c.template-item.result c.loop-template-test.true)

pub loop-template-preserved : goal.loop-template-preserved
loop-template-preserved c =
    front_of_more (family_view c.args.family.now) c.args.templates.now c.args.seed.now c.loop-template.template-index c.template-item.result c.in_ok-candidate.field-0 c.loop-template.rows.items _
    c.loop-template-test.true c.template-item.is c.in_ok-candidate.ensures.row c.in_ok-candidate.ensures.canonical c.in_ok-push.ensures.items c.loop-template.invariant

pub returns : goal.returns
returns c = front_of_whole (family_view c.args.family.now) c.args.templates.now c.args.seed.now c.loop-template.template-index c.loop-template.rows.items (omega arith) (omega arith) c.loop-template.invariant
