use Rattle.std.proofs.Common.{◌≡◌, ◌+◌, ◌≤◌, length, ap, arith}
use Rattle.relay_core.specs.Relay.{Progress, without}
use Rattle.relay_core.proofs.Kept.{without_shorter}
use Rattle.neat_workers.proofs.finishing.give_all_back.Goals as goal

pub loop-holding-smaller : goal.loop-holding-smaller
loop-holding-smaller c =
    let before = c.loop-holding.state.progress.held in
    let after = c.give_back.new.self.progress.held in
    let sector = c.in-Some.holding.sector.0 in
    let leads = c.in-Ok.ensures.ok.0.leads in
    let left : after ≡ without sector before = ap (λ (p : Progress). p.held) leads.1 in
    let shorter : length (without sector before) + 1 ≤ length before = without_shorter sector c.in-Some.holding.worker before leads.0 in
    omega (arith, ap length left, shorter)
