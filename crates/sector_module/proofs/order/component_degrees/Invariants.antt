use Rattle.std.proofs.Common.{◌≡◌, ◌-◌, ◌++◌}
use Rattle.ibp_algebra.specs.Polynomial.{degree_of}
use Rattle.family.specs.Conditions.{in_sector}
use Rattle.sector_module.specs.PairOrders.{degrees_from, component_degrees}
use Rattle.sector_module.proofs.order.component_degrees.Given as goal

abbrev pub invariant-loop-place : goal.invariant-loop-place
invariant-loop-place l =
    l.degrees.items ++ degrees_from (degree_of l.family.baikov) (in_sector l.stripped.0) l.place (l.family.n - l.place)
    ≡ component_degrees l.family.baikov l.family.n (in_sector l.stripped.0)
