use Rattle.std.proofs.Common.{◌≡◌, ◌≢◌, ◌+◌, ◌≤◌, ◌++◌, ◌∷◌, [], length, sum, sym, ap, subst, ◌∙◌, rules}
use Rattle.std.proofs.lemmas.Bool.{eq-eqb, ne_eqb, le-ltb}
use Rattle.mono_order.specs.declared.limits.TheConstants.{RUN_DEGREE}
use Rattle.mono_order.specs.Term.{Term, lcm_term}
use Rattle.module_vec.specs.ModuleVector.{lead}
use Rattle.module_basis.proofs.Forming.{IsFormed, IsFormed-passed, IsFormed-more}
use Rattle.module_basis.proofs.pairs.formed_pairs.Goals as goal
use Rattle.module_basis.proofs.pairs.formed_pairs.Goals.{then-lead-new+in-Some+in_ok-push, else-lead-new}

pub loop-place-preserved : goal.loop-place-preserved
loop-place-preserved g c =
    let first : c.lead.inside.component ≡ (lead c.index-elements-place.result).0 = ap (λ (t : Term). t.0) (c.lead.view_is ∙ c.lead_term-lead.ensures.lead) in
    let second : c.new.inside.component ≡ c.args.new.now.0 = ap (λ (t : Term). t.0) c.new.view_is in
    elim c.if-lead-new.branch [
      | then-lead-new+in-Some+in_ok-push w ↦
          let is : c.if-lead-new.pairs.items ≡ c.loop-place.pairs.items ++ (record { first = c.loop-place.place + 1; second = length c.args.elements.now + 1; lcm = lcm_term (lead c.index-elements-place.result) c.args.new.now }) ∷ [] = search rules in
          let small : sum (lcm_term (lead c.index-elements-place.result) c.args.new.now).1 ≤ RUN_DEGREE = search rules in
          IsFormed-more RUN_DEGREE (length c.args.elements.now + 1) c.args.new.now c.args.elements.now c.loop-place.place c.index-elements-place.result c.loop-place.pairs.items c.if-lead-new.pairs.items c.loop-place-test.true
          c.index-elements-place.is (eq-eqb (lead c.index-elements-place.result).0 c.args.new.now.0 (sym first ∙ w.if-lead-new.true ∙ second)) (le-ltb RUN_DEGREE (sum (lcm_term (lead c.index-elements-place.result) c.args.new.now).1) small)
          is c.loop-place.invariant
      | else-lead-new w ↦
          let apart : (lead c.index-elements-place.result).0 ≢ c.args.new.now.0 = λ e. w.if-lead-new.false (first ∙ e ∙ sym second) in
          let same : c.if-lead-new.pairs.items ≡ c.loop-place.pairs.items = ap (λ v. v.items) w.pairs-is in
          subst (IsFormed RUN_DEGREE (length c.args.elements.now + 1) c.args.new.now c.args.elements.now (c.loop-place.place + 1)) (sym same)
          (IsFormed-passed RUN_DEGREE (length c.args.elements.now + 1) c.args.new.now c.args.elements.now c.loop-place.place c.index-elements-place.result c.loop-place.pairs.items c.loop-place-test.true c.index-elements-place.is
          (ne_eqb (lead c.index-elements-place.result).0 c.args.new.now.0 apart) c.loop-place.invariant)
    ]
