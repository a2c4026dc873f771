use Rattle.std.proofs.Common.{◌≡◌, take}
use Rattle.meet_module.specs.MeetRuns.{stripped}
use Rattle.meet_module.proofs.vectors.stripped.Given as goal

abbrev pub invariant-loop-term : goal.invariant-loop-term
invariant-loop-term l = l.terms.items ≡ stripped l.sector.0 (take l.term-index l.term-items)
