use Rattle.std.proofs.Common.{◌+◌, ◌≤◌, arith}
use Rattle.ibp_algebra.specs.Polynomial.{degree_of}
use Rattle.mono_order.specs.declared.limits.TheConstants.{MONO_DEGREE}
use Rattle.sparse_poly.proofs.Loops.{fits_lists}
use Rattle.sparse_poly.proofs.poly.Poly.mul.Goals as goal

pub product_of-requires-clause-fits : goal.product_of-requires-clause-fits
product_of-requires-clause-fits c =
    let fits : degree_of c.args.self.now + degree_of c.args.other.now ≤ MONO_DEGREE = omega (arith, c.degree.ensures.degree, c.degree-2.ensures.degree, c.if-degree-gt-MONO_DEGREE.false) in
    fits_lists MONO_DEGREE c.args.self.now c.args.other.now c.terms.result.now c.terms-2.result.now c.terms.ensures.same c.terms-2.ensures.same fits

pub product_of-requires-clause-turned : goal.product_of-requires-clause-turned
product_of-requires-clause-turned c =
    let fits : degree_of c.args.other.now + degree_of c.args.self.now ≤ MONO_DEGREE = omega (arith, c.degree.ensures.degree, c.degree-2.ensures.degree, c.if-degree-gt-MONO_DEGREE.false) in
    fits_lists MONO_DEGREE c.args.other.now c.args.self.now c.terms-2.result.now c.terms.result.now c.terms-2.ensures.same c.terms.ensures.same fits
