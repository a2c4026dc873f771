use Rattle.std.proofs.Common.{◌≡◌, ◌<◌, ◌+◌, ◌*◌, ◌%◌, length, get_or, sym, refl, ap, subst, ◌∙◌, arith}
use Rattle.std.proofs.Math.ListN.{length-set}
use Rattle.fast_division.specs.Ranks.{place_of_term, HasPlace}
use Rattle.fast_division.specs.Windows.{vector_of, IsWindow}
use Rattle.fast_division.proofs.Merges.{product_bounded}
use Rattle.fast_division.proofs.KeptPlaces.{kept_place, kept_length}
use Rattle.fast_division.proofs.Windows.{multiple_has, multiple_added, IsWindow-added, weights_added}
use Rattle.fast_division.proofs.window.add_at.Goals as goal

pub times-key-requires : goal.times-key-requires
times-key-requires g c = product_bounded c.args.by.now c.args.terms.now c.loop-i.i c.index-terms-i.result c.loop-i-test.true c.index-terms-i.is c.requires.within

pub add-requires-clause-values : goal.add-requires-clause-values
add-requires-clause-values g c =
    let long = kept_length c.args.placed.now c.args.by.now c.args.terms.now c.requires.places in
    omega (arith, c.index.ensures, c.requires.below c.loop-i.i c.index.result.now (omega (arith, long, c.loop-i-test.true)), c.loop-i.invariant.long)

pub loop-i-preserved : goal.loop-i-preserved
loop-i-preserved g c =
    let laws = g.met.O.TermOrder.laws in
    let placed = c.args.placed.now in
    let n = placed.shape.variables in
    let first = placed.shape.first in
    let count = placed.shape.count in
    let before = c.loop-i.cells in
    let after = c.add.new.self in
    let item = c.index-terms-i.result in
    let key = c.times-key.result in
    let place = c.index.result.now in
    let has : HasPlace n first count key =
    multiple_has (HasPlace n first count) c.args.by.now c.args.terms.now c.loop-i.i item key c.loop-i-test.true c.index-terms-i.is c.times-key.ensures c.requires.places.has
    in
    let at : place ≡ place_of_term n first count key =
    kept_place placed c.args.by.now c.args.terms.now c.loop-i.i place item key c.requires.places c.loop-i-test.true c.index-terms-i.is c.times-key.ensures c.index.ensures
    in
    let long = kept_length placed c.args.by.now c.args.terms.now c.requires.places in
    let within : place < length before.values.items =
    omega (arith, c.index.ensures, c.requires.below c.loop-i.i place (omega (arith, long, c.loop-i-test.true)), c.loop-i.invariant.long)
    in
    let product = c.args.factor * item.1 in
    let value = (get_or before.values.items place 0 + product) % 2147483647 in
    record {
      window = subst (λ k. IsWindow g.O.TermOrder.high n first count k after.terms.items after.values.items) (sym c.add.ensures.top)
          (IsWindow-added laws n first count before.top before.terms.items before.values.items c.loop-i.invariant.window key place product value
          after.terms.items after.values.items has at within refl c.add.ensures.terms c.add.ensures.values);
      long = ap length c.add.ensures.values ∙ length-set before.values.items place value ∙ c.loop-i.invariant.long;
      sum = multiple_added (vector_of c.args.cells.now.terms.items c.args.cells.now.values.items) (vector_of before.terms.items before.values.items) (vector_of after.terms.items after.values.items)
          c.args.factor product c.args.by.now c.args.terms.now c.loop-i.i item key c.loop-i-test.true c.index-terms-i.is c.times-key.ensures refl
          (weights_added laws n first count before.top before.terms.items before.values.items c.loop-i.invariant.window key place product value
          after.terms.items after.values.items has at within refl c.add.ensures.terms c.add.ensures.values)
          c.loop-i.invariant.sum;
    }
