use Rattle.std.proofs.Common.{◌≡◌, take}
use Rattle.meet_module.specs.MeetRuns.{stripped_generators}
use Rattle.meet_module.proofs.vectors.stripped_generators.Given as goal

abbrev pub invariant-loop-vector : goal.invariant-loop-vector
invariant-loop-vector l = l.vectors.items ≡ stripped_generators l.sector.0 (take l.vector-index l.list)
