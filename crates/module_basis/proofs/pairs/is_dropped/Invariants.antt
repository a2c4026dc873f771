use Rattle.std.proofs.Common.{◌≡◌, ◌+◌, drop}
use Rattle.module_basis.specs.PlainRun.{is_dropped}
use Rattle.module_basis.proofs.pairs.is_dropped.Given as goal

abbrev pub invariant-loop-place : goal.invariant-loop-place
invariant-loop-place g l = is_dropped (1 + l.place) (drop l.place l.elements) l.pairs.pairs l.pair ≡ is_dropped 1 l.elements l.pairs.pairs l.pair
