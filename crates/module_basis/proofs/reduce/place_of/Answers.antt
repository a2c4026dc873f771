use Rattle.std.proofs.Common.{◌≡◌, length, ◌∙◌, arith, rules}
use Rattle.std.proofs.lemmas.Grind.{common_steps}
use Rattle.module_basis.proofs.Keeping.{descending_place, descending_place-is}
use Rattle.module_basis.proofs.reduce.place_of.Goals as goal

pub returns-then-ne-clause-place : goal.returns-then-ne-clause-place
returns-then-ne-clause-place g c =
    let order = g.O.TermOrder.order in
    let at : c.loop-place.place ≡ descending_place order c.args.term.now c.args.list.now = first_of (search rules, grind (arith, common_steps)) in
    at ∙ descending_place-is order c.args.term.now c.args.list.now

pub returns-clause-place : goal.returns-clause-place
returns-clause-place g c =
    let order = g.O.TermOrder.order in
    let at : length c.args.list.now ≡ descending_place order c.args.term.now c.args.list.now = first_of (search rules, grind (arith, common_steps)) in
    at ∙ descending_place-is order c.args.term.now c.args.list.now
