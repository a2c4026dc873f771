use Rattle.std.proofs.Common.{◌≡◌, ◌-◌, ◌+◌, if◌then◌else◌, ap, ◌∙◌, arith}
use Rattle.ibp_algebra.specs.Polynomial.{degree_of}
use Rattle.family.specs.Conditions.{in_sector}
use Rattle.sector_module.specs.PairOrders.{component_degrees}
use Rattle.sector_module.proofs.PairOrders.{degrees_more}
use Rattle.sector_module.proofs.order.component_degrees.Goals as goal

pub loop-place-preserved : goal.loop-place-preserved
loop-place-preserved c =
    let family = c.args.family.now in
    let inside = in_sector c.args.stripped.0 in
    let place : c.loop-place.place + 1 - 1 ≡ c.loop-place.place = omega arith in
    let is : c.variable_degree.result ≡ degree_of family.baikov - 1 + (if inside c.loop-place.place then 1 else 0) =
    c.variable_degree.ensures
    ∙ (λ k. c.degree-degree.ensures.degree k - 1 + (if (c.is_inside.ensures ∙ ap inside place) k then 1 else 0))
    in
    degrees_more (degree_of family.baikov) inside family.n c.loop-place.place c.variable_degree.result c.loop-place.degrees.items c.push-in-loop-place.new.self.items
    (component_degrees family.baikov family.n inside) c.loop-place-test.true is c.in_ok-push-2.ensures.items c.loop-place.invariant
