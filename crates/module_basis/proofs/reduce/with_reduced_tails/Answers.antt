use Rattle.std.proofs.Common.{◌≡◌, ◌+◌, ◌++◌, ◌∷◌, [], List, take, sym, subst, ap, ◌∙◌}
use Rattle.std.specs.List.{AllZip}
use Rattle.std.proofs.lemmas.List.{take_more}
use Rattle.std.proofs.lemmas.List.Elements.{AllZip-push}
use Rattle.mono_order.specs.declared.limits.TheConstants.{VARIABLES}
use Rattle.module_vec.specs.ModuleVector.{ModuleVector}
use Rattle.module_basis.specs.GroebnerBasis.{IsTailReduced}
use Rattle.module_basis.proofs.reduce.with_reduced_tails.Goals as goal

pub loop-vector-preserved : goal.loop-vector-preserved
loop-vector-preserved g c =
    let order = g.O.TermOrder.order in
    let taken : take (c.loop-vector.vector-index + 1) c.args.list.now ≡ take c.loop-vector.vector-index c.args.list.now ++ c.vector-item.result ∷ [] =
    take_more c.args.list.now c.loop-vector.vector-index c.vector-item.result c.loop-vector-test.true
    ∙ ap (λ (v : ModuleVector). take c.loop-vector.vector-index c.args.list.now ++ v ∷ []) (sym c.vector-item.is)
    in
    let pushed : c.push.new.self.items ≡ c.loop-vector.reduced.items ++ c.in_ok-with_reduced_tail.field-0 ∷ [] = c.in_ok-push.ensures.items in
    subst (λ (l : List ModuleVector). AllZip (IsTailReduced order VARIABLES c.args.list.now) l c.push.new.self.items) (sym taken)
    (subst (λ (l : List ModuleVector). AllZip (IsTailReduced order VARIABLES c.args.list.now) (take c.loop-vector.vector-index c.args.list.now ++ c.vector-item.result ∷ []) l) (sym pushed)
    (AllZip-push (IsTailReduced order VARIABLES c.args.list.now) (take c.loop-vector.vector-index c.args.list.now) c.loop-vector.reduced.items c.vector-item.result c.in_ok-with_reduced_tail.field-0
    c.loop-vector.invariant c.in_ok-with_reduced_tail.ensures))
