use Rattle.std.proofs.Common.{◌<◌, ◌+◌, ◌*◌, ◌%◌, length, get_or, sym, refl, ap, subst, ◌∙◌, arith}
use Rattle.std.proofs.Math.ListN.{length-set}
use Rattle.fast_division.specs.Windows.{vector_of, IsWindow, IsReached}
use Rattle.fast_division.proofs.Merges.{product_bounded}
use Rattle.fast_division.proofs.Windows.{multiple_has, multiple_added, IsWindow-added, weights_added}
use Rattle.fast_division.proofs.window.add_terms.Goals as goal

pub times-key-requires : goal.times-key-requires
times-key-requires g c = product_bounded c.args.by.now c.args.terms.now c.loop-term.term-index c.loop-term-item.result c.loop-term-test.true c.loop-term-item.is c.requires.within

pub place-requires-clause-place : goal.place-requires-clause-place
place-requires-clause-place g c =
    let reached = multiple_has (IsReached c.args.places.now.ranks.0 c.args.places.now.first c.args.places.now.count c.args.places.now.ranks.1 (length c.args.cells.now.values.items)) c.args.by.now c.args.terms.now
    c.loop-term.term-index c.loop-term-item.result c.times-key.result c.loop-term-test.true c.loop-term-item.is c.times-key.ensures c.requires.reached in
    reached.has

pub place-requires-clause-degree : goal.place-requires-clause-degree
place-requires-clause-degree g c =
    let reached = multiple_has (IsReached c.args.places.now.ranks.0 c.args.places.now.first c.args.places.now.count c.args.places.now.ranks.1 (length c.args.cells.now.values.items)) c.args.by.now c.args.terms.now
    c.loop-term.term-index c.loop-term-item.result c.times-key.result c.loop-term-test.true c.loop-term-item.is c.times-key.ensures c.requires.reached in
    reached.degree

pub add-requires-clause-values : goal.add-requires-clause-values
add-requires-clause-values g c =
    let reached = multiple_has (IsReached c.args.places.now.ranks.0 c.args.places.now.first c.args.places.now.count c.args.places.now.ranks.1 (length c.args.cells.now.values.items)) c.args.by.now c.args.terms.now
    c.loop-term.term-index c.loop-term-item.result c.times-key.result c.loop-term-test.true c.loop-term-item.is c.times-key.ensures c.requires.reached in
    omega (arith, reached.within, c.place.ensures, c.loop-term.invariant.long)

pub loop-term-preserved : goal.loop-term-preserved
loop-term-preserved g c =
    let laws = g.met.O.TermOrder.laws in
    let places = c.args.places.now in
    let before = c.loop-term.cells in
    let after = c.add.new.self in
    let item = c.loop-term-item.result in
    let key = c.times-key.result in
    let reached = multiple_has (IsReached places.ranks.0 places.first places.count places.ranks.1 (length c.args.cells.now.values.items)) c.args.by.now c.args.terms.now c.loop-term.term-index item key
    c.loop-term-test.true c.loop-term-item.is c.times-key.ensures c.requires.reached in
    let within : c.place.result < length before.values.items = omega (arith, reached.within, c.place.ensures, c.loop-term.invariant.long) in
    let product = c.args.factor * item.1 in
    let value = (get_or before.values.items c.place.result 0 + product) % 2147483647 in
    record {
      window = subst (λ n. IsWindow g.O.TermOrder.high places.ranks.0 places.first places.count n after.terms.items after.values.items) (sym c.add.ensures.top)
          (IsWindow-added laws places.ranks.0 places.first places.count before.top before.terms.items before.values.items c.loop-term.invariant.window key c.place.result product value
          after.terms.items after.values.items reached.has c.place.ensures within refl c.add.ensures.terms c.add.ensures.values);
      long = ap length c.add.ensures.values ∙ length-set before.values.items c.place.result value ∙ c.loop-term.invariant.long;
      sum = multiple_added (vector_of c.args.cells.now.terms.items c.args.cells.now.values.items) (vector_of before.terms.items before.values.items) (vector_of after.terms.items after.values.items)
          c.args.factor product c.args.by.now c.args.terms.now c.loop-term.term-index item key c.loop-term-test.true c.loop-term-item.is c.times-key.ensures refl
          (weights_added laws places.ranks.0 places.first places.count before.top before.terms.items before.values.items c.loop-term.invariant.window key c.place.result product value
          after.terms.items after.values.items reached.has c.place.ensures within refl c.add.ensures.terms c.add.ensures.values)
          c.loop-term.invariant.sum;
    }
