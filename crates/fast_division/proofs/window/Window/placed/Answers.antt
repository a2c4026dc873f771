use Rattle.std.proofs.Common.{◌<◌, ◌≤◌, sum, arith}
use Rattle.ibp_algebra.proofs.Combinations.{AllKeys-weaker}
use Rattle.module_vec.specs.ModuleVector.{multiply_vector}
use Rattle.fast_division.proofs.window.Window.placed.Goals as goal

pub places_of-requires-clause-degrees : goal.places_of-requires-clause-degrees
places_of-requires-clause-degrees g c =
    AllKeys-weaker (λ t. sum t.1 ≤ c.in-Some.degree) (λ t. sum t.1 < c.self.inside.places.ranks.1) (λ t small. omega (arith, small, c.if-degree-degrees.false, c.degrees.ensures))
    (multiply_vector c.args.by.now c.args.terms.now) c.in-Some.ensures.degree
