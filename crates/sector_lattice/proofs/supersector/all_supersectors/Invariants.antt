use Rattle.std.proofs.Common.{◌≡◌, ◌-◌, map}
use Rattle.sector_lattice.specs.Above.{of_lines}
use Rattle.sector_lattice.specs.Layers.{joined}
use Rattle.sector_lattice.proofs.supersector.all_supersectors.Given as goal

abbrev pub invariant-loop-missing : goal.invariant-loop-missing
invariant-loop-missing l = map (λ s. s.0) l.found.items ≡ joined (λ missing. of_lines l.sector.0 l.n (l.n - missing)) l.missing
