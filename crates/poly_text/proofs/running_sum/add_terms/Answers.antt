use Rattle.std.proofs.Common.{arith}
use Rattle.poly_text.proofs.RunningSums.{IsCanonical-added, terms_more}
use Rattle.poly_text.proofs.running_sum.add_terms.Goals as goal

pub loop-monomial-preserved : goal.loop-monomial-preserved
loop-monomial-preserved c = record {
  canonical = IsCanonical-added _ _ _ c.loop-monomial.invariant.canonical c.in_ok-count.ensures.added;
  counted = c.in_ok-count.ensures.counted;
  bounded = omega (arith, c.in_ok-count.ensures.bounded);
  sum = terms_more c.args.others.now.entries c.loop-monomial.others.entries _ c.args.terms.now c.loop-monomial.monomial-index c.args.factor _ c.loop-monomial-item.result c.loop-monomial.invariant.canonical
      c.loop-monomial-test.true c.loop-monomial-item.is c.mul.ensures c.in_ok-count.ensures.added c.loop-monomial.invariant.sum;
}
