use Rattle.std.proofs.Common.{◌^◌, ◌-◌, length}
use Rattle.neat_system.specs.Running.{IsUnderWay, Continues}
use Rattle.neat_system.proofs.alone.work_all.Given as goal

abbrev pub invariant-loop : goal.invariant-loop
invariant-loop l = record {
  under_way : IsUnderWay l.plan l.state;
  journal : Continues l.fn.state.journal l.state.journal;
}

abbrev pub decreases-loop : goal.decreases-loop
decreases-loop l = 2 ^ l.plan.n - length l.state.progress.done
