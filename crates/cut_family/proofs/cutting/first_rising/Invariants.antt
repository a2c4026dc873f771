use Rattle.std.proofs.Common.{◌≡◌, ◌+◌, drop}
use Rattle.cut_family.specs.Cutting.{first_rising}
use Rattle.cut_family.proofs.cutting.first_rising.Given as goal

abbrev pub invariant-loop-target : goal.invariant-loop-target
invariant-loop-target l = (l.number ≡ l.first + l.target-index) × (first_rising l.first l.cut l.targets ≡ first_rising l.number l.cut (drop l.target-index l.targets))
