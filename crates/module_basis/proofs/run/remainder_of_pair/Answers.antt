use Rattle.std.proofs.Common.{◌≡◌, ◌-◌, [], true, false, get_or, inl, inr, sym, subst, ap, ◌∙◌, rules, arith}
use Rattle.std.proofs.lemmas.List.{get_or_default}
use Rattle.std.proofs.lemmas.Result.{IfOk-weaker}
use Rattle.mono_order.specs.declared.limits.TheConstants.{VARIABLES, RUN_DEGREE}
use Rattle.module_vec.specs.ModuleVector.{ModuleVector, lead, IsMonic}
use Rattle.module_vec.specs.Division.{Remainder, OverDegree, DividesTo, is_s_vector_over, s_vector}
use Rattle.module_basis.specs.PlainRun.{is_pair_over}
use Rattle.module_basis.proofs.Stepping.{places, pair_within, pair_over}
use Rattle.module_basis.proofs.run.remainder_of_pair.Goals as goal

pub overflow_sub-first : goal.overflow_sub-first
overflow_sub-first g c = let p = places c.args.elements.now c.args.pair.now c.requires.proper in omega (arith, p.first)

pub bounds-elements-pair : goal.bounds-elements-pair
bounds-elements-pair g c = (places c.args.elements.now c.args.pair.now c.requires.proper).first_within

pub overflow_sub-second : goal.overflow_sub-second
overflow_sub-second g c = let p = places c.args.elements.now c.args.pair.now c.requires.proper in omega (arith, p.second)

pub bounds-elements-pair-2 : goal.bounds-elements-pair-2
bounds-elements-pair-2 g c = (places c.args.elements.now c.args.pair.now c.requires.proper).second_within

pub s_vector-requires-clause-left : goal.s_vector-requires-clause-left
s_vector-requires-clause-left g c =
    let p = places c.args.elements.now c.args.pair.now c.requires.proper in
    subst IsMonic (sym c.index-elements-pair.is) (c.requires.monic (c.args.pair.now.first - 1) c.index-elements-pair.result p.first_within).monic

pub s_vector-requires-clause-right : goal.s_vector-requires-clause-right
s_vector-requires-clause-right g c =
    let p = places c.args.elements.now c.args.pair.now c.requires.proper in
    subst IsMonic (sym c.index-elements-pair-2.is) (c.requires.monic (c.args.pair.now.second - 1) c.index-elements-pair-2.result p.second_within).monic

pub s_vector-requires-clause-component : goal.s_vector-requires-clause-component
s_vector-requires-clause-component g c =
    let p = places c.args.elements.now c.args.pair.now c.requires.proper in
    let first = c.index-elements-pair.is ∙ get_or_default c.args.elements.now (c.args.pair.now.first - 1) c.index-elements-pair.result [] p.first_within in
    let second = c.index-elements-pair-2.is ∙ get_or_default c.args.elements.now (c.args.pair.now.second - 1) c.index-elements-pair-2.result [] p.second_within in
    ap (λ (v : ModuleVector). (lead v).0) first ∙ (p.component ∙ ap (λ (v : ModuleVector). (lead v).0) (sym second))

pub returns-in_err-difference-clause-over : goal.returns-in_err-difference-clause-over
returns-in_err-difference-clause-over g c = λ e.
    let order = g.O.TermOrder.order in
    let p = places c.args.elements.now c.args.pair.now c.requires.proper in
    let first = c.index-elements-pair.is ∙ get_or_default c.args.elements.now (c.args.pair.now.first - 1) c.index-elements-pair.result [] p.first_within in
    let second = c.index-elements-pair-2.is ∙ get_or_default c.args.elements.now (c.args.pair.now.second - 1) c.index-elements-pair-2.result [] p.second_within in
    let over : is_s_vector_over RUN_DEGREE c.index-elements-pair.result c.index-elements-pair-2.result ≡ true = search rules in
    inl (pair_over order VARIABLES RUN_DEGREE (get_or c.args.elements.now (c.args.pair.now.first - 1) []) (get_or c.args.elements.now (c.args.pair.now.second - 1) []) c.args.pair.now.lcm
    (c.requires.monic (c.args.pair.now.first - 1) [] p.first_within) (c.requires.monic (c.args.pair.now.second - 1) [] p.second_within) p.lcm
    (sym (λ i. is_s_vector_over RUN_DEGREE (first i) (second i)) ∙ over))

pub returns-clause-within : goal.returns-clause-within
returns-clause-within g c =
    let order = g.O.TermOrder.order in
    let p = places c.args.elements.now c.args.pair.now c.requires.proper in
    let first = c.index-elements-pair.is ∙ get_or_default c.args.elements.now (c.args.pair.now.first - 1) c.index-elements-pair.result [] p.first_within in
    let second = c.index-elements-pair-2.is ∙ get_or_default c.args.elements.now (c.args.pair.now.second - 1) c.index-elements-pair-2.result [] p.second_within in
    let within = pair_within RUN_DEGREE (get_or c.args.elements.now (c.args.pair.now.first - 1) []) (get_or c.args.elements.now (c.args.pair.now.second - 1) []) c.args.pair.now.lcm p.lcm
    (sym (λ i. is_s_vector_over RUN_DEGREE (first i) (second i)) ∙ c.in_ok-difference.ensures.within)
    in
    IfOk-weaker c.remainder_by.result (λ r. DividesTo order RUN_DEGREE c.args.elements.now c.in_ok-difference.difference (Remainder r))
    (λ r. is_pair_over RUN_DEGREE (get_or c.args.elements.now (c.args.pair.now.first - 1) []) (get_or c.args.elements.now (c.args.pair.now.second - 1) []) c.args.pair.now.lcm ≡ false)
    (λ r d. within) c.remainder_by.ensures.remainder

pub returns-clause-remainder : goal.returns-clause-remainder
returns-clause-remainder g c =
    let order = g.O.TermOrder.order in
    let p = places c.args.elements.now c.args.pair.now c.requires.proper in
    let first = c.index-elements-pair.is ∙ get_or_default c.args.elements.now (c.args.pair.now.first - 1) c.index-elements-pair.result [] p.first_within in
    let second = c.index-elements-pair-2.is ∙ get_or_default c.args.elements.now (c.args.pair.now.second - 1) c.index-elements-pair-2.result [] p.second_within in
    let difference = c.in_ok-difference.ensures.difference ∙ (λ i. s_vector order (first i) (second i)) in
    IfOk-weaker c.remainder_by.result (λ r. DividesTo order RUN_DEGREE c.args.elements.now c.in_ok-difference.difference (Remainder r))
    (λ r. DividesTo order RUN_DEGREE c.args.elements.now (s_vector order (get_or c.args.elements.now (c.args.pair.now.first - 1) []) (get_or c.args.elements.now (c.args.pair.now.second - 1) [])) (Remainder r))
    (λ r d. subst (λ (v : ModuleVector). DividesTo order RUN_DEGREE c.args.elements.now v (Remainder r)) difference d) c.remainder_by.ensures.remainder

pub returns-clause-over : goal.returns-clause-over
returns-clause-over g c = λ e.
    let order = g.O.TermOrder.order in
    let p = places c.args.elements.now c.args.pair.now c.requires.proper in
    let first = c.index-elements-pair.is ∙ get_or_default c.args.elements.now (c.args.pair.now.first - 1) c.index-elements-pair.result [] p.first_within in
    let second = c.index-elements-pair-2.is ∙ get_or_default c.args.elements.now (c.args.pair.now.second - 1) c.index-elements-pair-2.result [] p.second_within in
    let difference = c.in_ok-difference.ensures.difference ∙ (λ i. s_vector order (first i) (second i)) in
    let within = pair_within RUN_DEGREE (get_or c.args.elements.now (c.args.pair.now.first - 1) []) (get_or c.args.elements.now (c.args.pair.now.second - 1) []) c.args.pair.now.lcm p.lcm
    (sym (λ i. is_s_vector_over RUN_DEGREE (first i) (second i)) ∙ c.in_ok-difference.ensures.within)
    in
    inr (within, subst (λ (v : ModuleVector). DividesTo order RUN_DEGREE c.args.elements.now v OverDegree) difference (c.remainder_by.ensures.over e))
