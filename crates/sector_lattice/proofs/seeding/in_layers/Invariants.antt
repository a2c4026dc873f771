use Rattle.std.proofs.Common.{◌≡◌, length}
use Rattle.sector_lattice.specs.Layers.{joined}
use Rattle.sector_lattice.proofs.SeedLists.{of_dots}
use Rattle.sector_lattice.proofs.seeding.in_layers.Given as goal

abbrev pub invariant-loop-spent : goal.invariant-loop-spent
invariant-loop-spent l = l.found.items ≡ joined (of_dots (length l.fn.powers) l.sector l.rank) l.spent
