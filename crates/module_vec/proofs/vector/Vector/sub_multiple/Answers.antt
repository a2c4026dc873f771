use Rattle.std.proofs.Common.{◌∙◌, ◌++◌}
use Rattle.ibp_algebra.specs.FormalSum.{scale, normal_form}
use Rattle.module_vec.proofs.NormalForms.{joined, IsVector-sum, AllKeys-of_sum}
use Rattle.module_vec.proofs.vector.Vector.sub_multiple.Goals as goal

pub invariant_of-result : goal.invariant_of-result
invariant_of-result g c =
    let laws = g.met.O.TermOrder.laws in
    let is = joined laws c.args.self.now c.in_ok-multiple.multiple _ _ _ c.neg.result c.terms.ensures.same c.terms-2.ensures.same c.in_ok-sum_with_multiple.ensures in (
      IsVector-sum laws _ _ _ _ is c.terms.ensures.canonical.terms c.terms-2.ensures.canonical.terms,
      AllKeys-of_sum laws _ _ _ _ _ is c.terms.ensures.bounded c.terms-2.ensures.bounded,
    )

pub returns-clause-difference : goal.returns-clause-difference
returns-clause-difference g c =
    joined g.met.O.TermOrder.laws c.args.self.now c.in_ok-multiple.multiple _ _ _ c.neg.result c.terms.ensures.same c.terms-2.ensures.same c.in_ok-sum_with_multiple.ensures
    ∙ (λ i. normal_form g.O.TermOrder.order (c.args.self.now ++ scale (c.neg.ensures i) (c.in_ok-multiple.ensures.product i)))
