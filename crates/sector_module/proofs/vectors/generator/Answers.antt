use Rattle.std.proofs.Common.{◌≡◌, ◌≢◌, ◌≤◌, [], Ok, Err, sum, sym, subst, ap, ◌∙◌}
use Rattle.std.specs.Prelude.{IfOk}
use Rattle.std.proofs.lemmas.Result.{IfOk-weaker}
use Rattle.ibp_algebra.specs.FormalSum.{AllKeys, normal_form}
use Rattle.mono_order.specs.declared.limits.TheConstants.{RUN_DEGREE, VARIABLES}
use Rattle.mono_order.specs.TermOrder.{zero_dominates}
use Rattle.module_vec.specs.ModuleVector.{ModuleVector}
use Rattle.sector_module.specs.Factors.{factor_generator}
use Rattle.sector_module.proofs.Generating.{generator_terms, generator_within, generator_some}
use Rattle.sector_module.proofs.vectors.generator.Goals as goal

pub vector_of_terms-requires : goal.vector_of_terms-requires
vector_of_terms-requires c =
    let terms : c.deref.result.now ≡ factor_generator VARIABLES c.args.i c.args.f.now =
    generator_terms c.args.i c.loop-monomial.monomial-index c.args.f.now _ c.loop-monomial.terms.items c.deref.result.now _ _ c.loop-monomial-test.false c.terms-monomial-items.ensures.same
    c.one.ensures c.one-2.ensures (c.deref.ensures.value ∙ c.in_ok-push-2.ensures.items) c.loop-monomial.invariant
    in
    subst (AllKeys (λ t. sum t.1 ≤ RUN_DEGREE)) (sym terms) (generator_within RUN_DEGREE c.args.i c.args.f.now c.requires.degrees)

made : (c : goal.After-drop-terms-2) → IfOk c.vector_of_terms.result (λ v. v ≡ normal_form zero_dominates (factor_generator VARIABLES c.args.i c.args.f.now))
made c =
    let terms : c.deref.result.now ≡ factor_generator VARIABLES c.args.i c.args.f.now =
    generator_terms c.args.i c.loop-monomial.monomial-index c.args.f.now _ c.loop-monomial.terms.items c.deref.result.now _ _ c.loop-monomial-test.false c.terms-monomial-items.ensures.same
    c.one.ensures c.one-2.ensures (c.deref.ensures.value ∙ c.in_ok-push-2.ensures.items) c.loop-monomial.invariant
    in
    subst (λ (l : ModuleVector). IfOk c.vector_of_terms.result (λ v. v ≡ normal_form zero_dominates l)) terms c.vector_of_terms.ensures

pub returns-clause-vector : goal.returns-clause-vector
returns-clause-vector c = made c

pub returns-clause-not_zero : goal.returns-clause-not_zero
returns-clause-not_zero c =
    IfOk-weaker c.vector_of_terms.result _ _ (λ v is none. generator_some c.args.i c.args.f.now c.requires.component (sym is ∙ none)) (made c)
