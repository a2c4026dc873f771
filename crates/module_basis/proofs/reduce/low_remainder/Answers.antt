use Rattle.std.proofs.Common.{◌≡◌}
use Rattle.mono_order.specs.declared.limits.TheConstants.{RUN_DEGREE}
use Rattle.module_vec.specs.Division.{Remainder, OverDegree}
use Rattle.module_vec.proofs.DivisionLaws.{DividesTo-unique}
use Rattle.module_basis.proofs.ReducedBases.{low_division}
use Rattle.module_basis.proofs.reduce.low_remainder.Goals as goal

pub unreachable-requires : goal.unreachable-requires
unreachable-requires g c =
    let order = g.O.TermOrder.order in
    let low = low_division g.met.O.TermOrder.laws c.args.list.now c.requires.monic RUN_DEGREE c.args.v.now c.requires.vector.canonical c.requires.vector.terms c.requires.low in
    let over = c.remainder_by.ensures.over (cc) in
    let clash : Remainder low.0 ≡ OverDegree = DividesTo-unique order RUN_DEGREE c.args.list.now c.args.v.now (Remainder low.0) OverDegree low.1 over in
    cc
