use Rattle.std.proofs.Common.{Ok, Err, IfOk, ◌≡◌}
use Rattle.std.specs.Ordering.{eq_by_cmp}
use Rattle.ibp_algebra.specs.FormalSum.{SameCoefficients, IsCanonical, normal_form}
use Rattle.module_vec.proofs.NormalForms.{is_normal}
use Rattle.module_vec.proofs.vector.terms_of_sum.Goals as goal

pub returns : goal.returns
returns g c =
    let order = g.O.TermOrder.order in
    let f = c.args.terms.now in
    elim c.sum_of_terms.result as (λ r. IfOk r (λ v. SameCoefficients (eq_by_cmp order) v.items f) → IfOk r (λ v. IsCanonical order v.items) → IfOk r (λ v. v.items ≡ normal_form order f)) [
      | Ok v ↦ λ h k. is_normal g.met.O.TermOrder.laws v.items f k h
      | Err e ↦ λ h k. h
    ] c.sum_of_terms.ensures.sum c.sum_of_terms.ensures.canonical
