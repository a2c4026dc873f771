use Rattle.std.proofs.Common.{◌≡◌, ◌≤◌, List, length, sym, ap, subst, ◌∙◌, arith}
use Rattle.std.specs.List.{All}
use Rattle.ibp_algebra.specs.Polynomial.{Polynomial}
use Rattle.ibp_algebra.specs.Field.{unstripped}
use Rattle.mono_order.specs.declared.limits.TheConstants.{MONO_DEGREE, RUN_DEGREE, VARIABLES}
use Rattle.family.specs.Conditions.{in_sector}
use Rattle.ibp_relation.specs.Shifts.{HasDegree}
use Rattle.ibp_relation.proofs.Degrees.{HasDegree-more}
use Rattle.ibp_relation.proofs.UnstrippedForms.{length-unstripped, unstripped_degrees}
use Rattle.ibp_relation.proofs.template.Template.of.Goals as goal

pub of_field-requires-clause-fits : goal.of_field-requires-clause-fits
of_field-requires-clause-fits c =
    let field = c.args.field.now in
    let inside = in_sector c.args.sector.0 in
    let made : c.deref.result.now ≡ unstripped inside field.c = c.deref.ensures.value ∙ c.in_ok-a.ensures ∙ ap (unstripped inside) c.as_slice.ensures in
    ap length made ∙ length-unstripped 0 inside field.c ∙ c.requires.count

pub of_field-requires-clause-degrees : goal.of_field-requires-clause-degrees
of_field-requires-clause-degrees c =
    let field = c.args.field.now in
    let inside = in_sector c.args.sector.0 in
    let made : c.deref.result.now ≡ unstripped inside field.c = c.deref.ensures.value ∙ c.in_ok-a.ensures ∙ ap (unstripped inside) c.as_slice.ensures in
    let small : length field.c ≤ VARIABLES = omega (arith, c.requires.count, c.args.family.now.limits.few_variables) in
    subst (λ (a : List Polynomial). All (HasDegree MONO_DEGREE) a) (sym made) (unstripped_degrees inside c.args.family.now.n field.c small c.requires.polynomials)

pub of_field-requires-clause-degree : goal.of_field-requires-clause-degree
of_field-requires-clause-degree c = HasDegree-more RUN_DEGREE MONO_DEGREE c.args.field.now.b (omega arith) c.requires.factor.degree_within
