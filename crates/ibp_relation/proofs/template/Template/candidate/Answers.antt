use Rattle.std.proofs.Common.{List, ap, subst, ◌∙◌}
use Rattle.std.proofs.lemmas.Result.{IfOk-weaker}
use Rattle.ibp_algebra.specs.FormalSum.{strike}
use Rattle.ibp_algebra.specs.Laurent.{SameLaurent}
use Rattle.sparse_rows.specs.Rows.{is_zero_integral}
use Rattle.sparse_poly.specs.declared.limits.TheConstants.{DEGREE_LIMIT}
use Rattle.ibp_relation.specs.Templates.{AffineTerm, terms_at}
use Rattle.ibp_relation.proofs.TermsAtSeed.{template_row}
use Rattle.ibp_relation.proofs.UnstrippedForms.{none_rises_in_module}
use Rattle.ibp_relation.proofs.template.Template.candidate.Goals as goal

pub returns-clause-row : goal.returns-clause-row
returns-clause-row c =
    let family = c.args.family.now in
    let α = c.args.seed.now in
    let made = subst (λ (terms : List AffineTerm). SameLaurent c.in_ok-terms.terms.items (terms_at α terms)) (c.deref.ensures.value ∙ c.self.view_is) c.in_ok-terms.ensures in
    IfOk-weaker c.strike.result _ _
    (λ row e.
    template_row family.n family.gamma family.baikov c.args.self.now α (is_zero_integral family.zero) c.in_ok-terms.terms.items _ c.in_ok-row.row row c.requires.seed.count made
    c.deref-2.ensures.value c.in_ok-row.ensures.sum (e ∙ ap (λ z. strike (is_zero_integral z) c.in_ok-row.row) c.as_slice.ensures))
    c.strike.ensures.struck

pub returns-clause-no_rise : goal.returns-clause-no_rise
returns-clause-no_rise c =
    let family = c.args.family.now in
    none_rises_in_module family.n DEGREE_LIMIT family.gamma family.baikov c.args.seed.now family.limits.few_variables family.limits.polynomial family.limits.not_zero c.requires.seed

pub returns-in_err-terms-clause-no_rise : goal.returns-in_err-terms-clause-no_rise
returns-in_err-terms-clause-no_rise c =
    let family = c.args.family.now in
    none_rises_in_module family.n DEGREE_LIMIT family.gamma family.baikov c.args.seed.now family.limits.few_variables family.limits.polynomial family.limits.not_zero c.requires.seed

pub returns-in_err-row-clause-no_rise : goal.returns-in_err-row-clause-no_rise
returns-in_err-row-clause-no_rise c =
    let family = c.args.family.now in
    none_rises_in_module family.n DEGREE_LIMIT family.gamma family.baikov c.args.seed.now family.limits.few_variables family.limits.polynomial family.limits.not_zero c.requires.seed
