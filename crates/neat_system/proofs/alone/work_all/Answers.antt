use Rattle.std.proofs.Common.{◌≡◌, ◌+◌, ◌^◌, ◌≤◌, length, subst, Bool, arith}
use Rattle.std.specs.Bool.{OnTrue}
use Rattle.neat_system.specs.Running.{Advances}
use Rattle.neat_system.proofs.Running.{few_done}
use Rattle.neat_system.proofs.alone.work_all.Goals as goal

pub loop-smaller : goal.loop-smaller
loop-smaller c =
    let plan = c.args.plan.now in
    let new = c.work_next.new.state in
    let more : Advances plan c.loop.state new = subst (λ (b : Bool). OnTrue b (Advances plan c.loop.state new)) c.if-branch.true c.in_ok-work_next.ensures.more in
    let few : length new.progress.done ≤ 2 ^ plan.n = few_done plan new more.under_way in
    let next : length new.progress.done ≡ length c.loop.state.progress.done + 1 = more.one_more in
    omega (arith, few, next)
