use Rattle.std.proofs.Common.{◌≡◌, ◌++◌, length}
use Rattle.sector_lattice.specs.Layers.{joined, layer}
use Rattle.sector_lattice.proofs.seeding.add_of_dots.Given as goal

abbrev pub invariant-loop-spent : goal.invariant-loop-spent
invariant-loop-spent l = l.found.items ≡ l.fn.found.items ++ joined (λ r. layer (length l.fn.powers) l.sector l.dots r) l.spent
