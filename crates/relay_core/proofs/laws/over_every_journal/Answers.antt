use Rattle.relay_core.proofs.Finishes.{finishes_are_done}
use Rattle.relay_core.proofs.Sound.{replay_sound}
use Rattle.relay_core.proofs.Facts.{lie_between, reached_if, final, goes_on, closed_meets}
use Rattle.relay_core.proofs.laws.over_every_journal.Goals as goal

pub returns : goal.returns
returns g c = λ plan journal progress replays.
    let laws = g.met.W.Piece g.world.𝓛 g.world.𝓜 g.world.𝓡 ((λ s x. x), (λ x. x), (λ x. x), λ x. x) in
    let tails = g.W.Piece.are_tails plan in
    let opening = g.W.Piece.opening plan in
    let lawful = laws.lawful plan in
    let opened = laws.opened plan in
    let sound = replay_sound tails opening.n lawful opening.targets journal progress opened replays in
    record {
      between = lie_between tails opening.n lawful opening.targets opened progress sound;
      ascend = sound.ascends;
      powers = sound.powers;
      settled = λ sector taken. final tails opening.n lawful opening.targets opened progress sound sector taken;
      reached = λ sector taken. reached_if tails opening.n lawful opening.targets opened progress sound sector taken;
      ordered = sound.ordered;
      finished = finishes_are_done tails opening.n lawful opening.targets journal progress opened replays;
      goes_on = goes_on tails opening.n lawful opening.targets opened progress sound;
      whole = λ closed. closed_meets tails opening.n lawful opening.targets opened progress sound closed;
    }
