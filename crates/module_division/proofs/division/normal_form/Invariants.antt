use Rattle.std.proofs.Common.{drop}
use Rattle.mono_order.specs.declared.limits.TheConstants.{RUN_DEGREE}
use Rattle.module_vec.proofs.Measure.{lead_measure}
use Rattle.module_division.proofs.Prefixes.{Settled}
use Rattle.module_division.proofs.division.normal_form.Given as goal

abbrev pub invariant-steps : goal.invariant-steps
invariant-steps g l = Settled g.O.TermOrder.order RUN_DEGREE l.list l.fn.v l.rest l.settled

abbrev pub decreases-steps : goal.decreases-steps
decreases-steps g l = lead_measure g.O.TermOrder.high g.O.TermOrder.height g.O.TermOrder.bound (drop l.settled l.rest)
