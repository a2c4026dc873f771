use Rattle.std.proofs.Common.{List, sym, subst, take, ◌+◌}
use Rattle.family.specs.FamilyView.{family_view}
use Rattle.ibp_base.proofs.Zips.{zip_more}
use Rattle.ibp_relation.specs.Templates.{IsSectorTemplate}
use Rattle.ibp_relation.specs.declared.affine.AffineTerm.{AffineTerm}
use Rattle.sector_job.specs.FieldTemplates.{AreTemplates}
use Rattle.sector_job.proofs.candidates.all_templates.Goals as goal

pub loop-field-preserved : goal.loop-field-preserved
loop-field-preserved c =
    let family = c.args.family.now in
    let sector = c.args.sector.0 in
    let fields = c.args.fields.now in
    let i = c.loop-field.field-index in
    subst (λ (templates : List (List AffineTerm)). AreTemplates (family_view family) sector (take (i + 1) fields) templates) (sym c.in_ok-push.ensures.items)
    (zip_more (IsSectorTemplate family.n family.gamma sector) fields c.loop-field.templates.items i c.field-item.result c.in_ok-of.field-0 c.loop-field-test.true c.field-item.is c.loop-field.invariant
    c.in_ok-of.ensures)
