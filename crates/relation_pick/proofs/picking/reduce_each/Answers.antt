use Rattle.std.proofs.Common.{◌+◌, ◌++◌, ◌∷◌, [], List, take, sym, subst, ℕ}
use Rattle.ibp_algebra.specs.FormalSum.{FormalSum}
use Rattle.sector_lattice.specs.Sectors.{integral_cmp}
use Rattle.sparse_rows.specs.Rows.{IntegralSum}
use Rattle.relation_pick.specs.Picking.{AllAnswers}
use Rattle.relation_pick.proofs.Keeping.{IsAnswer-from_reduce}
use Rattle.relation_pick.proofs.Finishing.{AllAnswers-step, AllAnswers-whole}
use Rattle.relation_pick.proofs.picking.reduce_each.Goals as goal

pub loop-target-init : goal.loop-target-init
loop-target-init c candidates keeps = rw (c.new-reductions.ensures.items, c.new-weights.ensures.items) tt

pub loop-target-preserved : goal.loop-target-preserved
loop-target-preserved c candidates keeps =
    let reduced = c.in_ok-reduced.reduced in
    let answer =
    IsAnswer-from_reduce candidates c.args.echelon.now keeps c.target-item.result reduced.rest reduced.weights
    c.in_ok-reduced.ensures.rest c.in_ok-reduced.ensures.canonical c.in_ok-reduced.ensures.weights c.in_ok-reduced.ensures.numbers c.in_ok-reduced.ensures.ascending
    in
    let step =
    AllAnswers-step integral_cmp candidates c.args.targets.now c.loop-target.target-index c.loop-target.reductions.items c.loop-target.weights.items
    c.target-item.result reduced.rest reduced.weights c.loop-target-test.true c.target-item.is answer (c.loop-target.invariant candidates keeps)
    in
    let targets = take (c.loop-target.target-index + 1) c.args.targets.now in
    subst (λ (all : List (FormalSum ℕ)). AllAnswers integral_cmp candidates targets c.push.new.self.items all) (sym c.in_ok-push-2.ensures.items)
    (subst (λ (forms : List IntegralSum). AllAnswers integral_cmp candidates targets forms (c.loop-target.weights.items ++ reduced.weights ∷ [])) (sym c.in_ok-push.ensures.items) step)

pub returns : goal.returns
returns c candidates keeps =
    AllAnswers-whole integral_cmp candidates c.args.targets.now c.loop-target.target-index c.loop-target.reductions.items c.loop-target.weights.items c.loop-target-test.false (c.loop-target.invariant candidates keeps)
