use Rattle.fast_division.specs.Kept.{AreRowsOf}
use Rattle.module_vec.proofs.Measure.{lead_measure}
use Rattle.fast_division.proofs.Drains.{Draining}
use Rattle.fast_division.proofs.division.drain_remainder.Given as goal

abbrev pub invariant-steps : goal.invariant-steps
invariant-steps g l = Draining g.O.TermOrder.order g.met.O.TermOrder.laws l.list l.fn.rest l.settled.items l.rest × AreRowsOf g.O.TermOrder.high l.list l.multiples

abbrev pub decreases-steps : goal.decreases-steps
decreases-steps g l = lead_measure g.O.TermOrder.high g.O.TermOrder.height g.O.TermOrder.bound l.rest
