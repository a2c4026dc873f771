use Rattle.sparse_poly.proofs.Loops.{sum_of_both}
use Rattle.sparse_poly.proofs.poly.Poly.add.Goals as goal

pub returns-clause-sum : goal.returns-clause-sum
returns-clause-sum c =
    sum_of_both c.one.result c.args.self.now c.args.other.now c.in_ok-plus_multiple.field-0.items c.terms.result.now c.terms-2.result.now
    c.one.ensures c.terms.ensures.same c.terms-2.ensures.same c.in_ok-plus_multiple.ensures.sum
