use Rattle.std.proofs.Common.{◌<◌, ◌∙◌, sum, ap}
use Rattle.std.proofs.lemmas.List.{take_all}
use Rattle.module_vec.specs.ModuleVector.{ModuleVector, multiply_vector}
use Rattle.fast_division.specs.Ranks.{HasPlace}
use Rattle.fast_division.proofs.Merges.{product_bounded}
use Rattle.fast_division.proofs.KeptPlaces.{places_in, places_more}
use Rattle.fast_division.proofs.Windows.{multiple_has}
use Rattle.fast_division.proofs.window.Places.places_of.Goals as goal

pub loop-term-init : goal.loop-term-init
loop-term-init c = c.in_ok-places.ensures.items

pub times-key-requires : goal.times-key-requires
times-key-requires c = product_bounded c.args.by.now c.args.terms.now c.loop-term.term-index c.loop-term-item.result c.loop-term-test.true c.loop-term-item.is c.requires.within

pub place-requires-clause-place : goal.place-requires-clause-place
place-requires-clause-place c =
    let places = c.args.self.now in
    multiple_has (HasPlace places.ranks.0 places.first places.count) c.args.by.now c.args.terms.now c.loop-term.term-index c.loop-term-item.result c.times-key.result c.loop-term-test.true c.loop-term-item.is
    c.times-key.ensures c.requires.has

pub place-requires-clause-degree : goal.place-requires-clause-degree
place-requires-clause-degree c =
    multiple_has (λ t. sum t.1 < c.args.self.now.ranks.1) c.args.by.now c.args.terms.now c.loop-term.term-index c.loop-term-item.result c.times-key.result c.loop-term-test.true c.loop-term-item.is
    c.times-key.ensures c.requires.degrees

pub loop-term-preserved : goal.loop-term-preserved
loop-term-preserved c =
    let places = c.args.self.now in
    places_more places.ranks.0 places.first places.count c.args.by.now c.args.terms.now c.loop-term.places.items c.push.new.self.items c.loop-term.term-index c.in-Ok.place c.loop-term-item.result c.times-key.result
    c.loop-term-test.true c.loop-term-item.is c.times-key.ensures (c.in-Ok.ensures.1 ∙ c.place.ensures) c.in_ok-push.ensures.items c.loop-term.invariant

pub returns : goal.returns
returns c =
    let places = c.args.self.now in
    c.loop-term.invariant
    ∙ ap (λ (v : ModuleVector). places_in places.ranks.0 places.first places.count (multiply_vector c.args.by.now v)) (take_all c.loop-term.term-index c.args.terms.now c.loop-term-test.false)
