use Rattle.std.proofs.Common.{rules, ◌≡◌, ◌≢◌, ◌-◌, ◌⊎◌, true, false, get_or, [], List, Some, Err, sym, subst, ap, ◌∙◌}
use Rattle.std.proofs.lemmas.Result.{IfOk-weaker}
use Rattle.mono_order.specs.declared.limits.TheConstants.{RUN_DEGREE}
use Rattle.module_vec.specs.ModuleVector.{ModuleVector}
use Rattle.module_vec.specs.declared.fault.VectorFault.TheVariants as faults
use Rattle.module_vec.specs.Division.{DividesTo, Remainder, OverDegree, s_vector}
use Rattle.module_basis.specs.PlainRun.{RunState, run_state, TakesPair, Next, Over, is_pair_over, with_element, without_pair}
use Rattle.module_basis.proofs.Stepping.{TakesPair-over, TakesPair-remainder, added_remainder}
use Rattle.module_basis.proofs.run.Run.stepped.Goals as goal

pub returns-in_err-rest-clause-over : goal.returns-in_err-rest-clause-over
returns-in_err-rest-clause-over g c = λ e.
    let order = g.O.TermOrder.order in
    let pair = c.args.pair.now in
    let state = run_state c.self.inside.pairs.by c.self.inside.elements.items c.self.inside.pairs.pairs c.self.inside.taken in
    let told : c.remainder_of_pair.result ≡ Err faults.DegreeOver = search rules in
    let over = subst (λ (l : List ModuleVector).
    (is_pair_over RUN_DEGREE (get_or l (pair.first - 1) []) (get_or l (pair.second - 1) []) pair.lcm ≡ true)
    ⊎ ((is_pair_over RUN_DEGREE (get_or l (pair.first - 1) []) (get_or l (pair.second - 1) []) pair.lcm ≡ false)
    × DividesTo order RUN_DEGREE l (s_vector order (get_or l (pair.first - 1) []) (get_or l (pair.second - 1) [])) OverDegree)) c.deref.ensures.value (c.remainder_of_pair.ensures.over told)
    in
    subst (λ (s : RunState). TakesPair order RUN_DEGREE pair s Over) c.self.view_is (TakesPair-over order RUN_DEGREE pair state over)

pub returns-clause-next : goal.returns-clause-next
returns-clause-next g c =
    let order = g.O.TermOrder.order in
    let pair = c.args.pair.now in
    let state = run_state c.self.inside.pairs.by c.self.inside.elements.items c.self.inside.pairs.pairs c.self.inside.taken in
    let after = without_pair state.pairs state in
    let rest = c.in_ok-rest.rest in
    let not_zero : rest ≢ [] = λ e. search rules in
    let within = subst (λ (l : List ModuleVector). is_pair_over RUN_DEGREE (get_or l (pair.first - 1) []) (get_or l (pair.second - 1) []) pair.lcm ≡ false) c.deref.ensures.value c.in_ok-rest.ensures.within in
    let divided = subst (λ (l : List ModuleVector). DividesTo order RUN_DEGREE l (s_vector order (get_or l (pair.first - 1) []) (get_or l (pair.second - 1) [])) (Remainder rest)) c.deref.ensures.value c.in_ok-rest.ensures.remainder in
    IfOk-weaker c.added.result (λ (run : RunState). with_element order RUN_DEGREE after c.in_ok-made_monic.field-0 ≡ Some run) (λ (run : RunState). TakesPair order RUN_DEGREE pair c.args.self (Next run))
    (λ run k.
    subst (λ (s : RunState). TakesPair order RUN_DEGREE pair s (Next run)) c.self.view_is
    (TakesPair-remainder order RUN_DEGREE pair state rest (Next run) within divided
    (added_remainder order RUN_DEGREE after rest (Some run) not_zero (ap (with_element order RUN_DEGREE after) (sym c.in_ok-made_monic.ensures.value) ∙ k))))
    c.added.ensures.added
