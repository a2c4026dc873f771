use Rattle.std.proofs.Common.{ℕ, ◌<◌}
use Rattle.ibp_algebra.specs.Field.{IsDividedAt}
use Rattle.sector_lattice.specs.Sectors.{sector_of}
use Rattle.family.specs.Conditions.{in_sector}
use Rattle.ibp_relation.proofs.conditions.first_undivided.Given as goal

abbrev pub invariant-loop-place : goal.invariant-loop-place
invariant-loop-place l = (j : ℕ) → j < l.place → IsDividedAt (in_sector (sector_of l.seed)) l.a j
