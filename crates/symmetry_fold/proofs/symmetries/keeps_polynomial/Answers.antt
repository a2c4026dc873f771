use Rattle.std.proofs.Common.{List, ℕ, arith, subst}
use Rattle.ibp_algebra.specs.Polynomial.{SamePolynomial, permute}
use Rattle.symmetry_fold.specs.Symmetries.{in_all_variables}
use Rattle.symmetry_fold.proofs.SymmetryTests.{are_variables, as_many, keeps}
use Rattle.symmetry_fold.proofs.symmetries.keeps_polynomial.Goals as goal

pub in_all_variables-requires : goal.in_all_variables-requires
in_all_variables-requires c = omega (arith, as_many c.args.family.now.n c.args.numbers.now c.requires, c.args.family.now.limits.few_variables)

pub permute-requires : goal.permute-requires
permute-requires c = rw c.in_all_variables.ensures (are_variables c.args.family.now.n c.args.numbers.now c.args.family.now.limits.few_variables c.requires)

pub returns : goal.returns
returns c =
    let p = c.args.family.now.baikov in
    let moved = c.in_ok-moved.moved in
    keeps moved p (permute (in_all_variables c.args.numbers.now) p) c.eq.result c.in_ok-moved.ensures.canonical c.args.family.now.limits.polynomial.canonical
    (subst (λ (to : List ℕ). SamePolynomial moved (permute to p)) c.in_all_variables.ensures c.in_ok-moved.ensures.moved) c.eq.ensures
