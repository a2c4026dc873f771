use Rattle.std.proofs.Common.{◌≡◌, ◌≢◌, ◌≤◌, sum, ◌∙◌, sym, ap, subst}
use Rattle.std.proofs.lemmas.Bool.{eq-eqb, ne_eqb}
use Rattle.mono_order.specs.Term.{Term}
use Rattle.module_vec.proofs.Components.{component_taken, component_left, component_whole, component_keys}
use Rattle.ibp_algebra.specs.FormalSum.{AllKeys}
use Rattle.mono_order.specs.declared.limits.TheConstants.{RUN_DEGREE}
use Rattle.module_vec.specs.ModuleVector.{component_of}
use Rattle.module_vec.proofs.vector.Vector.component.Goals as goal
use Rattle.module_vec.proofs.vector.Vector.component.Goals.{then-term-component+in_ok-push, else-term-component}

pub loop-term-preserved : goal.loop-term-preserved
loop-term-preserved g c =
    let at : c.term.inside.component ≡ c.loop-term-item.result.0.0 = ap (λ (t : Term). t.0) c.term.view_is in
    elim c.if-term-component.branch [
      | then-term-component+in_ok-push w ↦
          let key : c.term.inside.monomial ≡ c.loop-term-item.result.0.1 = ap (λ (t : Term). t.1) c.term.view_is in
          component_taken c.args.component _ c.loop-term.terms.items _ _ _ c.loop-term-item.result _ c.loop-term-test.true c.loop-term-item.is
          (eq-eqb _ _ (sym at ∙ w.if-term-component.true)) key (ap (λ v. v.items) w.terms-is) w.in_ok-push.ensures.items c.loop-term.invariant
      | else-term-component w ↦
          let other : c.loop-term-item.result.0.0 ≢ c.args.component = λ e. w.if-term-component.false (at ∙ e) in
          component_left c.args.component _ c.loop-term.terms.items _ _ c.loop-term-item.result c.loop-term-test.true c.loop-term-item.is
          (ne_eqb _ _ other) (ap (λ v. v.items) w.terms-is) c.loop-term.invariant
    ]

pub returns-clause-terms : goal.returns-clause-terms
returns-clause-terms g c = c.from_vec.ensures ∙ c.loop-term.invariant ∙ component_whole c.args.component _ c.args.self.now _ c.loop-term-test.false c.terms-term-items.ensures.same

pub returns-clause-bounded : goal.returns-clause-bounded
returns-clause-bounded g c =
    let is : c.from_vec.result ≡ component_of c.args.component c.args.self.now =
    c.from_vec.ensures ∙ c.loop-term.invariant ∙ component_whole c.args.component _ c.args.self.now _ c.loop-term-test.false c.terms-term-items.ensures.same
    in
    subst (AllKeys (λ m. sum m ≤ RUN_DEGREE)) (sym is) (component_keys (λ m. sum m ≤ RUN_DEGREE) c.args.component c.args.self.now c.terms-term-items.ensures.bounded)
