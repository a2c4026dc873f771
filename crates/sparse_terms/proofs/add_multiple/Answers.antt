use Rattle.std.proofs.Common.{◌≤◌, length, inr, ⊎_elim, sym, refl, arith}
use Rattle.std.proofs.Math.ListN.{drop_of_length-le}
use Rattle.sparse_terms.proofs.Merging.{Merging-end, left_at, right_at, both_at, left_alone, right_alone}
use Rattle.sparse_terms.proofs.add_multiple.Goals as goal

pub both-preserved-in-Greater : goal.both-preserved-in-Greater
both-preserved-in-Greater g c = record {
  left_within = omega arith;
  right_within = omega arith;
  merging = left_at g.O.KeyOrder.order g.met.O.KeyOrder.total g.met.O.KeyOrder.unique _ _ _ _ _ _ _ _ _ _ c.both-test.true c.index-left-i.is c.if-j-right.true c.index-right-j.is
      (sym c.in-Greater.ensures) c.in_ok-push_term-in-Greater.ensures c.both.invariant.merging;
}

pub both-preserved-in-Less : goal.both-preserved-in-Less
both-preserved-in-Less g c = record {
  left_within = omega arith;
  right_within = omega arith;
  merging = right_at g.O.KeyOrder.order g.met.O.KeyOrder.total g.met.O.KeyOrder.unique _ _ _ _ _ _ _ _ _ _ _ c.both-test.true c.index-left-i.is c.if-j-right.true c.index-right-j.is
      (sym c.in-Less.ensures) c.mul.ensures c.in_ok-push_term-in-Less.ensures c.both.invariant.merging;
}

pub both-preserved : goal.both-preserved
both-preserved g c = record {
  left_within = omega arith;
  right_within = omega arith;
  merging = both_at g.O.KeyOrder.order g.met.O.KeyOrder.total g.met.O.KeyOrder.unique _ _ _ _ _ _ _ _ _ _ _ _ c.both-test.true c.index-left-i.is c.if-j-right.true c.index-right-j.is
      (sym c.in-Equal.ensures) refl c.add_product.ensures c.in_ok-push_term-in-Equal.ensures c.both.invariant.merging;
}

pub left-preserved : goal.left-preserved
left-preserved g c =
    let right_done : length c.args.right.now ≤ c.both.j =
    ⊎_elim (λ (done : length c.args.left.now ≤ c.left.i). absurd (omega arith)) (λ (done : length c.args.right.now ≤ c.both.j). done) c.left.invariant.one_left
    in
    record {
      left_within = omega arith;
      right_within = c.left.invariant.right_within;
      one_left = inr right_done;
      merging = left_alone g.O.KeyOrder.order g.met.O.KeyOrder.total g.met.O.KeyOrder.unique _ _ _ _ _ _ _ _ c.left-test.true c.index-left-i-in-left.is
          (drop_of_length-le c.args.right.now right_done) c.in_ok-push_term.ensures c.left.invariant.merging;
    }

pub right-preserved : goal.right-preserved
right-preserved g c = record {
  left_done = c.right.invariant.left_done;
  right_within = omega arith;
  merging = right_alone g.O.KeyOrder.order g.met.O.KeyOrder.total g.met.O.KeyOrder.unique _ _ _ _ _ _ _ _ _ c.right-test.true c.index-right-j-in-right.is
      (drop_of_length-le c.args.left.now c.right.invariant.left_done) c.mul-in-right.ensures c.in_ok-push_term-2.ensures c.right.invariant.merging;
}

pub returns-clause-sum : goal.returns-clause-sum
returns-clause-sum g c =
    Merging-end g.O.KeyOrder.order g.met.O.KeyOrder.total g.met.O.KeyOrder.unique _ _ _ _ _ (drop_of_length-le c.args.left.now c.right.invariant.left_done)
    (drop_of_length-le c.args.right.now c.right-test.false) c.right.invariant.merging
