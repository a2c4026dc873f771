use Rattle.std.proofs.Common.{◌+◌, ◌-◌, ◌*◌, sym, ap, ◌∙◌}
use Rattle.fast_division.specs.Ranks.{place_of_term}
use Rattle.fast_division.proofs.RankOrder.{place-is}
use Rattle.fast_division.proofs.window.Places.place.Goals as goal

pub returns : goal.returns
returns c =
    let places = c.args.self.now in
    (λ i. c.rank.ensures.rank i * places.count + (places.first + places.count - 1 - c.key.inside.component))
    ∙ sym (place-is places.ranks.0 places.first places.count (c.key.inside.component, c.key.inside.monomial)) ∙ ap (place_of_term places.ranks.0 places.first places.count) c.key.view_is
