use Rattle.std.proofs.Common.{◌≡◌, length}
use Rattle.neat_system.specs.Running.{Continues}
use Rattle.neat_workers.proofs.finishing.give_all_back.Given as goal

abbrev pub invariant-loop-holding : goal.invariant-loop-holding
invariant-loop-holding l = record {
  plan : l.state.plan ≡ l.fn.state.plan;
  journal : Continues l.fn.state.journal l.state.journal;
}

abbrev pub decreases-loop-holding : goal.decreases-loop-holding
decreases-loop-holding l = length l.state.progress.held
