use Rattle.std.proofs.Common.{◌+◌, sym, subst, refl, arith}
use Rattle.neat_workers.specs.Portions.{ArePortions}
use Rattle.neat_workers.specs.declared.portions.Portion.{Portion}
use Rattle.neat_workers.proofs.PortionsJoined.{ArePortions-step}
use Rattle.neat_workers.proofs.portions.portions_of.Goals as goal

pub loop-first-preserved : goal.loop-first-preserved
loop-first-preserved c =
    let first = c.loop-first.first in
    let end = first + c.min.result in
    let portion : Portion = record { first = first; end = end } in
    let longer = ArePortions-step 0 first c.loop-first.portions.items portion c.loop-first.invariant.1 refl (omega arith) (omega arith) in
    (omega arith, subst (ArePortions 0 end) (sym c.in_ok-push.ensures.items) longer)
