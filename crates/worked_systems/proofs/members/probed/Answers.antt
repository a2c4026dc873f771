use Rattle.std.proofs.Common.{◌≡◌, List, ◌∙◌, sym, subst, arith}
use Rattle.ibp_algebra.specs.Polynomial.{Polynomial}
use Rattle.mono_order.specs.declared.limits.TheConstants.{RUN_DEGREE}
use Rattle.sparse_poly.specs.declared.limits.TheConstants.{DEGREE_LIMIT}
use Rattle.family.specs.Limits.{IsProbe}
use Rattle.family.specs.Shapes.{IsField}
use Rattle.sector_module.proofs.FieldLimits.{IsField-more}
use Rattle.worked_systems.proofs.members.probed.Goals as goal

pub returns : goal.returns
returns c =
    let family = c.args.family.now in
    let probe = c.in-Some.probe in
    let fits : IsProbe family.n probe = family.limits.probe_fits probe c.in-Some.is in
    let a : c.in_ok-copy_polynomials.field-0 ≡ probe.field.a = c.in_ok-copy_polynomials.ensures ∙ c.as_slice.ensures in
    let within = IsField-more family.n DEGREE_LIMIT RUN_DEGREE probe.field.a probe.field.b (omega arith) fits.field in
    let polynomials = subst (λ (l : List Polynomial). IsField family.n RUN_DEGREE l probe.field.b) (sym a) within in
    subst (IsField family.n RUN_DEGREE c.in_ok-copy_polynomials.field-0) (sym c.in_ok-copy.ensures) polynomials
