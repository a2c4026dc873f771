use Rattle.ibp_relation.proofs.AffineTerms.{IsTemplateOf-affine_terms}
use Rattle.ibp_relation.proofs.template.Template.of_field.Goals as goal

pub returns : goal.returns
returns c =
    let family = c.args.family.now in
    IsTemplateOf-affine_terms family.n family.gamma c.args.a.now c.args.b.now _ _ family.limits.some_variables c.requires.fits c.requires.degrees c.requires.degree c.in_ok-terms.ensures c.sort_by_offset.ensures
