use Rattle.std.proofs.Common.{[], sym, ap, ◌∙◌, refl, subst}
use Rattle.ibp_field.specs.Arithmetic.{mul_mod}
use Rattle.mono_order.specs.declared.limits.TheConstants.{VARIABLES}
use Rattle.ibp_algebra.specs.FormalSum.{scale}
use Rattle.module_vec.specs.ModuleVector.{IsMonicVector}
use Rattle.module_vec.proofs.Monic.{IsMonicVector-monic_of}
use Rattle.module_vec.proofs.Multiples.{lead_coefficient-not_zero}
use Rattle.module_vec.proofs.NormalForms.{joined, IsVector-sum, AllKeys-of_sum, SameVector-normal, is_monic_of}
use Rattle.module_vec.proofs.vector.Vector.monic.Goals as goal

pub unreachable-requires-in_default-inverse : goal.unreachable-requires-in_default-inverse
unreachable-requires-in_default-inverse g c =
    lead_coefficient-not_zero g.O.TermOrder.order _ c.terms-terms.ensures.canonical.canonical c.requires (sym c.in-Some.ensures.coefficient ∙ c.in_default-inverse.ensures.none.0 refl)

pub invariant_of-result : goal.invariant_of-result
invariant_of-result g c =
    let laws = g.met.O.TermOrder.laws in
    let is = joined laws [] c.args.self.now _ _ _ c.in-Some-inverse.inverse refl c.terms-terms.ensures.same c.in_ok-sum_with_multiple.ensures in (
      IsVector-sum laws [] _ _ _ is tt c.terms-terms.ensures.canonical.terms,
      AllKeys-of_sum laws _ [] _ _ _ is tt c.terms-terms.ensures.bounded,
    )

pub returns-clause-monic : goal.returns-clause-monic
returns-clause-monic g c =
    let laws = g.met.O.TermOrder.laws in
    let vector = c.terms-terms.ensures.canonical in
    subst (IsMonicVector g.O.TermOrder.order VARIABLES)
    (sym
    (is_monic_of laws c.args.self.now _ c.in-Some-inverse.inverse vector.canonical c.requires
    (ap (λ n. mul_mod n c.in-Some-inverse.inverse) (sym c.in-Some.ensures.coefficient) ∙ c.in-Some-inverse.ensures.inverse)
    (joined laws [] c.args.self.now _ _ _ c.in-Some-inverse.inverse refl c.terms-terms.ensures.same c.in_ok-sum_with_multiple.ensures)))
    (IsMonicVector-monic_of laws c.args.self.now vector.canonical c.requires vector.terms)

pub returns-clause-multiple : goal.returns-clause-multiple
returns-clause-multiple g c =
    let laws = g.met.O.TermOrder.laws in
    record {
      factor = c.in-Some-inverse.inverse;
      multiple = SameVector-normal laws _ (scale c.in-Some-inverse.inverse c.args.self.now)
          (joined laws [] c.args.self.now _ _ _ c.in-Some-inverse.inverse refl c.terms-terms.ensures.same c.in_ok-sum_with_multiple.ensures);
    }
