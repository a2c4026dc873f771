use Rattle.std.proofs.Common.{◌≡◌, Err, true, false, sym, ap, ◌∙◌}
use Rattle.mono_order.specs.declared.limits.TheConstants.{RUN_DEGREE}
use Rattle.module_vec.specs.Division.{is_over_degree}
use Rattle.module_vec.proofs.Degrees.{within-AllKeys}
use Rattle.module_vec.proofs.NormalForms.{is_normal_form}
use Rattle.sector_module.proofs.vectors.vector_of_terms.Goals as goal

pub returns-in-Ok : goal.returns-in-Ok
returns-in-Ok g c = is_normal_form g.met.O.TermOrder.laws c.in-Ok.made c.args.terms.now c.in-Ok.ensures.canonical.canonical c.in-Ok.ensures.sum

pub unreachable-requires : goal.unreachable-requires
unreachable-requires g c =
    let within : is_over_degree RUN_DEGREE c.args.terms.now ≡ false = within-AllKeys RUN_DEGREE c.args.terms.now c.requires in
    let over : is_over_degree RUN_DEGREE c.args.terms.now ≡ true = c.from_terms.ensures.over (c.in-Err-DegreeOver.is ∙ ap (λ f. Err f) c.in-Err-DegreeOver.field-0-is) in
    let clash : true ≡ false = sym over ∙ within in
    cc
