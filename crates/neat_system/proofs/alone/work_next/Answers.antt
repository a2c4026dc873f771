use Rattle.std.proofs.Common.{ap, subst}
use Rattle.sector_lattice.specs.declared.sector.Sector.{Sector}
use Rattle.relay_core.specs.declared.job.Taken.{Taken}
use Rattle.relay_core.specs.State.{Takes}
use Rattle.sector_job.specs.Results.{tails_of_plan}
use Rattle.neat_system.proofs.Running.{reached_not_zero, advances, goes_on_twice, mid_holder, no_stranger}
use Rattle.neat_system.proofs.alone.work_next.Goals as goal

pub work-requires-clause-not_zero : goal.work-requires-clause-not_zero
work-requires-clause-not_zero c =
    let takes = subst (λ (t : Taken). Takes tails_of_plan 1 c.args.state.now t c.take.new.self) c.in-Job.is c.in_ok-take.ensures.taken in
    reached_not_zero c.args.plan.now c.args.state.now c.requires c.in-Job.job.sector.0 takes.0.leads.0.can.reached

pub returns-in-Ok-clause-more : goal.returns-in-Ok-clause-more
returns-in-Ok-clause-more c =
    let takes = subst (λ (t : Taken). Takes tails_of_plan 1 c.args.state.now t c.take.new.self) c.in-Job.is c.in_ok-take.ensures.taken in
    advances c.args.plan.now c.args.state.now c.take.new.self c.finish.new.self 1 c.in-Job.job.sector c.requires takes.0 c.in_ok-piece-in-Job.piece.sector c.in_ok-piece-in-Job.ensures.sector c.in-Ok.ensures.answers.1

pub unreachable-requires-in-Err-NotHeld : goal.unreachable-requires-in-Err-NotHeld
unreachable-requires-in-Err-NotHeld c =
    let takes = subst (λ (t : Taken). Takes tails_of_plan 1 c.args.state.now t c.take.new.self) c.in-Job.is c.in_ok-take.ensures.taken in
    let answers = rw c.in-Err-NotHeld.field-0-is at c.in-Err-NotHeld.ensures.answers in
    answers.1 (mid_holder c.args.plan.now c.args.state.now c.take.new.self c.take.new.self 1 c.in-Job.job.sector c.requires takes.0 c.in_ok-piece-in-Job.piece.sector.0 (ap (λ (s : Sector). s.0) c.in_ok-piece-in-Job.ensures.sector))

pub unreachable-requires-in-Err-Stranger : goal.unreachable-requires-in-Err-Stranger
unreachable-requires-in-Err-Stranger c =
    let takes = subst (λ (t : Taken). Takes tails_of_plan 1 c.args.state.now t c.take.new.self) c.in-Job.is c.in_ok-take.ensures.taken in
    let answers = rw c.in-Err-Stranger.field-0-is at c.in-Err-Stranger.ensures.answers in
    no_stranger c.args.plan.now c.args.state.now c.take.new.self c.take.new.self 1 c.in-Job.job.sector c.requires takes.0 c.in_ok-piece-in-Job.piece c.in-Job.job.targets
    c.in_ok-piece-in-Job.ensures.plan c.in_ok-piece-in-Job.ensures.sector c.in_ok-piece-in-Job.ensures.targets takes.3 answers.2

pub returns-in-Ok-clause-journal : goal.returns-in-Ok-clause-journal
returns-in-Ok-clause-journal c =
    let takes = subst (λ (t : Taken). Takes tails_of_plan 1 c.args.state.now t c.take.new.self) c.in-Job.is c.in_ok-take.ensures.taken in
    goes_on_twice c.args.state.now.journal c.take.new.self.journal c.finish.new.self.journal _ _ takes.0.journal c.in-Ok.ensures.answers.1.journal
