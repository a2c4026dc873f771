use Rattle.std.proofs.Common.{◌≡◌, take}
use Rattle.module_vec.specs.ModuleVector.{multiply_vector}
use Rattle.fast_division.proofs.KeptPlaces.{places_in}
use Rattle.fast_division.proofs.window.Places.places_of.Given as goal

abbrev pub invariant-loop-term : goal.invariant-loop-term
invariant-loop-term l = l.places.items ≡ places_in l.self.ranks.0 l.self.first l.self.count (multiply_vector l.by (take l.term-index l.terms))
