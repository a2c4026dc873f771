use Rattle.neat_workers.specs.Seats.{KeepsParts}
use Rattle.neat_workers.proofs.worker.next_step.Given as goal

abbrev pub invariant-loop : goal.invariant-loop
invariant-loop g l = KeepsParts l.fn.seat l.seat
