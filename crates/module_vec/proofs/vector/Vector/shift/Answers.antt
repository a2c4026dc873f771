use Rattle.std.proofs.Common.{◌≡◌, ◌≤◌, sum, sym, ap, subst, ◌∙◌, arith}
use Rattle.ibp_algebra.specs.FormalSum.{AllKeys}
use Rattle.mono_order.specs.declared.limits.TheConstants.{VARIABLES, RUN_DEGREE}
use Rattle.module_vec.specs.ModuleVector.{ModuleVector, multiply_vector, IsVector}
use Rattle.module_vec.specs.Division.{is_over_degree}
use Rattle.module_vec.proofs.Multiples.{IsCanonical-multiply, AllKeys-multiply}
use Rattle.module_vec.proofs.Degrees.{AllKeys-within, multiple_over_at, multiple_more, multiple_within_more, multiple_whole}
use Rattle.module_vec.proofs.vector.Vector.shift.Goals as goal

pub returns-then-degree_of-degree-gt-RUN_DEGREE-clause-over : goal.returns-then-degree_of-degree-gt-RUN_DEGREE-clause-over
returns-then-degree_of-degree-gt-RUN_DEGREE-clause-over g c = λ _.
    ap (λ (v : ModuleVector). is_over_degree RUN_DEGREE (multiply_vector c.args.by.now v)) (sym c.terms-term-items.ensures.same)
    ∙ multiple_over_at RUN_DEGREE c.args.by.now _ _ c.loop-term-item.result c.loop-term-test.true c.loop-term-item.is
    (omega (arith, c.if-degree_of-degree-gt-RUN_DEGREE.true, c.degree_of.ensures.degree, c.degree-degree.ensures.sum))

pub loop-term-preserved : goal.loop-term-preserved
loop-term-preserved g c = record {
  product = multiple_more c.args.by.now _ c.loop-term.terms.items _ _ c.loop-term-item.result _ c.loop-term-test.true c.loop-term-item.is c.times.ensures c.in_ok-push.ensures.items c.loop-term.invariant.product;
  within = multiple_within_more RUN_DEGREE c.args.by.now _ _ c.loop-term-item.result c.loop-term-test.true c.loop-term-item.is
      (omega (arith, c.if-degree_of-degree-gt-RUN_DEGREE.false, c.degree_of.ensures.degree, c.degree-degree.ensures.sum)) c.loop-term.invariant.within;
}

pub invariant_of-result : goal.invariant_of-result
invariant_of-result g c =
    let laws = g.met.O.TermOrder.laws in
    let long = c.degree-degree.ensures.kept.each_variable in
    let self = c.terms-term-items.ensures.canonical in
    let whole : c.loop-term.terms.items ≡ multiply_vector c.args.by.now c.args.self.now =
    c.loop-term.invariant.product ∙ multiple_whole c.args.by.now _ c.args.self.now _ c.loop-term-test.false c.terms-term-items.ensures.same
    in (
      subst (IsVector g.O.TermOrder.order VARIABLES) (sym whole)
          (record {
            canonical = IsCanonical-multiply laws c.args.by.now c.args.self.now long self.terms self.canonical;
            terms = AllKeys-multiply laws c.args.by.now c.args.self.now long self.terms;
          }),
      subst (AllKeys (λ t. sum t.1 ≤ RUN_DEGREE)) (sym c.loop-term.invariant.product) (AllKeys-within RUN_DEGREE _ c.loop-term.invariant.within),
    )

pub returns-clause-product : goal.returns-clause-product
returns-clause-product g c = c.loop-term.invariant.product ∙ multiple_whole c.args.by.now _ c.args.self.now _ c.loop-term-test.false c.terms-term-items.ensures.same

pub returns-clause-within : goal.returns-clause-within
returns-clause-within g c =
    ap (is_over_degree RUN_DEGREE) (sym (multiple_whole c.args.by.now _ c.args.self.now _ c.loop-term-test.false c.terms-term-items.ensures.same)) ∙ c.loop-term.invariant.within
