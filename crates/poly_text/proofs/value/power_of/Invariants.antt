use Rattle.std.proofs.Common.{◌≡◌}
use Rattle.std.specs.Prelude.{Ok}
use Rattle.poly_text.specs.Value.{power_of}
use Rattle.poly_text.proofs.value.power_of.Given as goal

abbrev pub invariant-loop-done : goal.invariant-loop-done
invariant-loop-done l = power_of l.at l.f l.done ≡ Ok l.power
