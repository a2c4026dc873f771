use Rattle.std.proofs.Common.{◌≡◌, ◌≤◌, ◌+◌, ◌++◌, take, length}
use Rattle.ibp_algebra.specs.FormalSum.{IsCanonical, scale}
use Rattle.ibp_algebra.specs.Exponents.{deg_rev_lex}
use Rattle.ibp_algebra.specs.Polynomial.{SamePolynomial}
use Rattle.poly_text.specs.Sum.{sum_of_both}
use Rattle.poly_text.proofs.running_sum.add_terms.Given as goal

abbrev pub invariant-loop-monomial : goal.invariant-loop-monomial
invariant-loop-monomial l =
    record {
      canonical : IsCanonical deg_rev_lex l.others.entries;
      counted : l.count ≡ length (sum_of_both l.first l.others.entries);
      bounded : l.count ≤ l.len + l.monomial-index;
      sum : SamePolynomial l.others.entries (l.initial.others.entries ++ scale l.factor (take l.monomial-index l.terms));
    }
