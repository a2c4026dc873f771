use Rattle.std.proofs.Common.{◌≡◌, ap, ◌∙◌}
use Rattle.std.proofs.lemmas.Result.{on_ok_weaker}
use Rattle.mono_order.specs.declared.limits.TheConstants.{VARIABLES, RUN_DEGREE}
use Rattle.mono_order.specs.Term.{Term}
use Rattle.module_vec.specs.ModuleVector.{lead}
use Rattle.module_division.proofs.SVectors.{lead_long, divides_first, divides_second, shifted_within}
use Rattle.module_division.proofs.s_vectors.s_vector.Goals as goal

pub quotient-requires : goal.quotient-requires
quotient-requires g c =
    let left : c.first.inside.monomial ≡ (lead c.args.left.now).1 = ap (λ (t : Term). t.1) (c.first.view_is ∙ c.lead_term-first.ensures.lead) in
    let right : c.second.inside.monomial ≡ (lead c.args.right.now).1 = ap (λ (t : Term). t.1) (c.second.view_is ∙ c.lead_term-second.ensures.lead) in
    divides_first _ _ _ VARIABLES
    (lead_long g.O.TermOrder.order VARIABLES c.args.left.now _ c.requires.left c.lead_term-first.ensures.kept left)
    (lead_long g.O.TermOrder.order VARIABLES c.args.right.now _ c.requires.right c.lead_term-second.ensures.kept right)
    c.in-Some.ensures.multiple

pub quotient-requires-2 : goal.quotient-requires-2
quotient-requires-2 g c =
    let left : c.first.inside.monomial ≡ (lead c.args.left.now).1 = ap (λ (t : Term). t.1) (c.first.view_is ∙ c.lead_term-first.ensures.lead) in
    let right : c.second.inside.monomial ≡ (lead c.args.right.now).1 = ap (λ (t : Term). t.1) (c.second.view_is ∙ c.lead_term-second.ensures.lead) in
    divides_second _ _ _ VARIABLES
    (lead_long g.O.TermOrder.order VARIABLES c.args.left.now _ c.requires.left c.lead_term-first.ensures.kept left)
    (lead_long g.O.TermOrder.order VARIABLES c.args.right.now _ c.requires.right c.lead_term-second.ensures.kept right)
    c.in-Some.ensures.multiple

pub returns-clause-within : goal.returns-clause-within
returns-clause-within g c =
    let left : c.first.inside.monomial ≡ (lead c.args.left.now).1 = ap (λ (t : Term). t.1) (c.first.view_is ∙ c.lead_term-first.ensures.lead) in
    let right : c.second.inside.monomial ≡ (lead c.args.right.now).1 = ap (λ (t : Term). t.1) (c.second.view_is ∙ c.lead_term-second.ensures.lead) in
    on_ok_weaker c.sub_multiple.result
    (λ second.
    shifted_within g.O.TermOrder.order VARIABLES RUN_DEGREE c.args.left.now c.args.right.now _ _ _ _ _ c.requires.left c.lead_term-first.ensures.kept
    c.requires.right c.lead_term-second.ensures.kept left right c.in-Some.ensures.multiple c.quotient.ensures c.quotient-2.ensures c.in_ok-shifted.ensures.within second)
    c.sub_multiple.ensures.within
