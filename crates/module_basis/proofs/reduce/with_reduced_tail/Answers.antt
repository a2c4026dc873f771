use Rattle.std.proofs.Common.{◌≡◌, ◌≤◌, ◌++◌, ◌∷◌, [], sum, sym, subst, ap, ◌∙◌}
use Rattle.ibp_algebra.specs.FormalSum.{AllKeys}
use Rattle.mono_order.specs.Term.{Term, IsTerm}
use Rattle.mono_order.specs.declared.limits.TheConstants.{VARIABLES, RUN_DEGREE}
use Rattle.module_vec.specs.ModuleVector.{ModuleVector, IsVector, IsMonicVector}
use Rattle.module_basis.specs.GroebnerBasis.{IsTailReduced}
use Rattle.module_basis.proofs.Keeping.{tail_low, tail_reduced_to}
use Rattle.module_basis.proofs.reduce.with_reduced_tail.Goals as goal

pub from_descending-below-requires : goal.from_descending-below-requires
from_descending-below-requires g c =
    let order = g.O.TermOrder.order in
    let copied : c.extend_from_slice.new.self.items ≡ c.in-Some.tail.now =
    c.in_ok-extend_from_slice.ensures.items ∙ ap (λ (l : ModuleVector). l ++ c.in-Some.tail.now) c.new-below.ensures.items
    in
    let whole : c.args.vector.now ≡ c.in-Some.first.now ∷ c.extend_from_slice.new.self.items =
    sym c.terms.ensures.same ∙ (c.in-Some.ensures.cases.0 ∙ ap (λ (v : ModuleVector). c.in-Some.first.now ∷ v) (sym copied))
    in
    let m = subst (IsMonicVector order VARIABLES) whole c.requires.first in
    record {
      vector = record { canonical = m.canonical.3; terms = m.terms.1 };
      within = (subst (AllKeys (λ (t : Term). sum t.1 ≤ RUN_DEGREE)) whole c.terms.ensures.bounded).1;
    }

pub low_remainder-requires-clause-low : goal.low_remainder-requires-clause-low
low_remainder-requires-clause-low g c =
    let copied : c.from_descending-below.result ≡ c.in-Some.tail.now =
    c.from_descending-below.ensures ∙ c.in_ok-extend_from_slice.ensures.items ∙ ap (λ (l : ModuleVector). l ++ c.in-Some.tail.now) c.new-below.ensures.items
    in
    let whole : c.args.vector.now ≡ c.in-Some.first.now ∷ c.from_descending-below.result =
    sym c.terms.ensures.same ∙ (c.in-Some.ensures.cases.0 ∙ ap (λ (v : ModuleVector). c.in-Some.first.now ∷ v) (sym copied))
    in
    tail_low g.met.O.TermOrder.laws RUN_DEGREE c.args.vector.now c.in-Some.first.now c.from_descending-below.result whole c.requires.first.canonical c.requires.low c.terms.ensures.bounded

pub from_descending-requires : goal.from_descending-requires
from_descending-requires g c =
    let order = g.O.TermOrder.order in
    let copied : c.from_descending-below.result ≡ c.in-Some.tail.now =
    c.from_descending-below.ensures ∙ c.in_ok-extend_from_slice.ensures.items ∙ ap (λ (l : ModuleVector). l ++ c.in-Some.tail.now) c.new-below.ensures.items
    in
    let whole : c.args.vector.now ≡ c.in-Some.first.now ∷ c.from_descending-below.result =
    sym c.terms.ensures.same ∙ (c.in-Some.ensures.cases.0 ∙ ap (λ (v : ModuleVector). c.in-Some.first.now ∷ v) (sym copied))
    in
    let pushed : c.push.new.self.items ≡ c.in-Some.first.now ∷ [] = c.in_ok-push.ensures.items ∙ ap (λ (l : ModuleVector). l ++ c.in-Some.first.now ∷ []) c.new-terms.ensures.items in
    let joined : c.extend_from_slice-2.new.self.items ≡ c.in-Some.first.now ∷ c.in_ok-rest.rest = c.in_ok-extend_from_slice-2.ensures.items ∙ (λ i. pushed i ++ c.terms-2.ensures.same i) in
    let reduced = tail_reduced_to g.met.O.TermOrder.laws c.args.list.now c.requires.monic RUN_DEGREE c.args.vector.now c.in-Some.first.now c.from_descending-below.result c.in_ok-rest.rest whole c.requires.first c.in_ok-rest.ensures in
    let terms = subst (AllKeys (IsTerm VARIABLES)) whole c.requires.first.terms in
    let bounded = subst (AllKeys (λ (t : Term). sum t.1 ≤ RUN_DEGREE)) whole c.terms.ensures.bounded in
    record {
      vector = subst (IsVector order VARIABLES) (sym joined) (record { canonical = reduced.1; terms = (terms.0, c.terms-2.ensures.canonical.terms) });
      within = subst (AllKeys (λ (t : Term). sum t.1 ≤ RUN_DEGREE)) (sym joined) (bounded.0, c.terms-2.ensures.bounded);
    }

pub returns : goal.returns
returns g c =
    let order = g.O.TermOrder.order in
    let copied : c.from_descending-below.result ≡ c.in-Some.tail.now =
    c.from_descending-below.ensures ∙ c.in_ok-extend_from_slice.ensures.items ∙ ap (λ (l : ModuleVector). l ++ c.in-Some.tail.now) c.new-below.ensures.items
    in
    let whole : c.args.vector.now ≡ c.in-Some.first.now ∷ c.from_descending-below.result =
    sym c.terms.ensures.same ∙ (c.in-Some.ensures.cases.0 ∙ ap (λ (v : ModuleVector). c.in-Some.first.now ∷ v) (sym copied))
    in
    let pushed : c.push.new.self.items ≡ c.in-Some.first.now ∷ [] = c.in_ok-push.ensures.items ∙ ap (λ (l : ModuleVector). l ++ c.in-Some.first.now ∷ []) c.new-terms.ensures.items in
    let joined : c.extend_from_slice-2.new.self.items ≡ c.in-Some.first.now ∷ c.in_ok-rest.rest = c.in_ok-extend_from_slice-2.ensures.items ∙ (λ i. pushed i ++ c.terms-2.ensures.same i) in
    let reduced = tail_reduced_to g.met.O.TermOrder.laws c.args.list.now c.requires.monic RUN_DEGREE c.args.vector.now c.in-Some.first.now c.from_descending-below.result c.in_ok-rest.rest whole c.requires.first c.in_ok-rest.ensures in
    subst (IsTailReduced order VARIABLES c.args.list.now c.args.vector.now) (sym (c.from_descending.ensures ∙ joined)) reduced.0
