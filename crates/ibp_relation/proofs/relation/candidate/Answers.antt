use Rattle.std.proofs.lemmas.Result.{IfOk-weaker}
use Rattle.sparse_rows.specs.Rows.{is_zero_integral}
use Rattle.sparse_poly.specs.declared.limits.TheConstants.{DEGREE_LIMIT}
use Rattle.ibp_relation.proofs.TermsAtSeed.{sector_row}
use Rattle.ibp_relation.proofs.UnstrippedForms.{none_rises_in_module}
use Rattle.ibp_relation.proofs.relation.candidate.Goals as goal

pub returns-clause-row : goal.returns-clause-row
returns-clause-row c =
    let family = c.args.family.now in
    IfOk-weaker c.candidate.result _ _
    (λ row h.
    sector_row family.n family.gamma family.baikov c.sector.result.0 c.args.field.now c.in_ok-template.template c.args.seed.now (is_zero_integral family.zero) row
    c.sector.ensures.value c.requires.field c.requires.member c.in_ok-template.ensures h)
    c.candidate.ensures.row

pub returns-in_err-template-clause-no_rise : goal.returns-in_err-template-clause-no_rise
returns-in_err-template-clause-no_rise c =
    let family = c.args.family.now in
    none_rises_in_module family.n DEGREE_LIMIT family.gamma family.baikov c.args.seed.now family.limits.few_variables family.limits.polynomial family.limits.not_zero c.requires.seed
    c.args.field.now c.requires.field c.requires.member
