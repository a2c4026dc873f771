use Rattle.std.proofs.Common.{◌≡◌, map, vec_len}
use Rattle.module_vec.specs.ModuleVector.{lead}
use Rattle.module_basis.proofs.Keeping.{IsKeeping}
use Rattle.module_basis.proofs.reduce.undivided.Given as goal

abbrev pub invariant-vectors : goal.invariant-vectors
invariant-vectors g l = record { keeping : IsKeeping g.met.O.TermOrder.laws l.fn.sorted.items l.sorted.items l.kept.items; index : l.index ≡ map lead l.kept.items }

abbrev pub decreases-vectors : goal.decreases-vectors
decreases-vectors g l = vec_len l.sorted
