use Rattle.std.proofs.Common.{sym, subst, rules, List, arith}
use Rattle.std.specs.List.{All}
use Rattle.ibp_algebra.specs.Polynomial.{Polynomial}
use Rattle.mono_order.specs.declared.limits.TheConstants.{MONO_DEGREE}
use Rattle.sector_lattice.specs.Sectors.{sector_of}
use Rattle.sparse_poly.specs.declared.limits.TheConstants.{DEGREE_LIMIT}
use Rattle.family.specs.Conditions.{MeetsTwoConditions}
use Rattle.ibp_relation.specs.Shifts.{HasDegree}
use Rattle.ibp_relation.specs.Templates.{IsTemplateOf}
use Rattle.ibp_relation.proofs.Degrees.{HasDegree-more, fields_degree}
use Rattle.ibp_relation.proofs.Outcomes.{none_rises}
use Rattle.ibp_relation.proofs.SeedSectors.{conditions_at}
use Rattle.ibp_relation.proofs.relation.identity.Goals as goal

pub of_field-requires-clause-degrees : goal.of_field-requires-clause-degrees
of_field-requires-clause-degrees c =
    subst (λ (a : List Polynomial). All (HasDegree MONO_DEGREE) a) (sym c.as_slice-a.ensures)
    (fields_degree c.args.family.now.n DEGREE_LIMIT MONO_DEGREE c.args.field.now.a (omega arith) c.requires.field.polynomials)

pub of_field-requires-clause-degree : goal.of_field-requires-clause-degree
of_field-requires-clause-degree c = HasDegree-more DEGREE_LIMIT MONO_DEGREE c.args.field.now.b (omega arith) c.requires.field.factor.degree_within

pub returns-clause-row : goal.returns-clause-row
returns-clause-row c =
    let family = c.args.family.now in
    let field = c.args.field.now in
    let meets : MeetsTwoConditions family.baikov (sector_of c.args.seed.now) field = search rules in
    c.in_ok-candidate.ensures.row.identity field.a field.b c.requires.field.count (conditions_at family.baikov c.args.seed.now field meets)
    (subst (λ (a : List Polynomial). IsTemplateOf family.n family.gamma a field.b c.in_ok-template.template) c.as_slice-a.ensures c.in_ok-template.ensures)

pub returns-clause-no_rise : goal.returns-clause-no_rise
returns-clause-no_rise c =
    let family = c.args.family.now in
    let field = c.args.field.now in
    let meets : MeetsTwoConditions family.baikov (sector_of c.args.seed.now) field = search rules in
    none_rises family.n DEGREE_LIMIT DEGREE_LIMIT family.gamma family.baikov field.a field.b c.args.seed.now family.limits.few_variables family.limits.polynomial family.limits.not_zero
    c.requires.field c.requires.seed (conditions_at family.baikov c.args.seed.now field meets)
