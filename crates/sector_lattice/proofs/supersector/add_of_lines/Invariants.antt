use Rattle.std.proofs.Common.{◌≡◌, ◌-◌, ◌^◌, ◌++◌, map}
use Rattle.sector_lattice.specs.Above.{one_above}
use Rattle.sector_lattice.specs.Layers.{joined}
use Rattle.sector_lattice.proofs.supersector.add_of_lines.Given as goal

abbrev pub invariant-loop-below : goal.invariant-loop-below
invariant-loop-below l = map (λ s. s.0) l.found.items ≡ map (λ s. s.0) l.fn.found.items ++ joined (λ below. one_above l.sector.0 l.members (2 ^ l.n - 1 - below)) l.below
