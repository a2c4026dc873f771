use Rattle.std.proofs.Common.{◌≡◌, ◌+◌}
use Rattle.sector_lattice.specs.Seeds.{binomial}
use Rattle.sector_lattice.proofs.seeding.spreads.Given as goal

abbrev pub invariant-loop-spent : goal.invariant-loop-spent
invariant-loop-spent l = l.ways ≡ binomial (l.places + l.spent) l.spent
