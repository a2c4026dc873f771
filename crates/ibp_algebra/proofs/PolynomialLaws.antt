-- The ring of polynomials, and that canonical polynomials with the same coefficients are one list.
use Rattle.std.proofs.Common.{◌≡◌, ◌+◌, ◌++◌, add_comm, add_assoc}
use Rattle.ibp_algebra.specs.FormalSum.{IsCanonical}
use Rattle.ibp_algebra.proofs.Canonical.{same_canonical}
use Rattle.ibp_algebra.proofs.SumLaws.{SameCoefficients-append, SameCoefficients-product, product_comm, product_assoc}
use Rattle.ibp_algebra.specs.Exponents.{add_exponents, same_exponents, deg_rev_lex}
use Rattle.ibp_algebra.specs.ExponentOrder.{exponents_decide, deg_rev_lex_total, deg_rev_lex_unique}
use Rattle.ibp_algebra.specs.Polynomial.{Polynomial, SamePolynomial, multiply}
use Rattle.ibp_algebra.proofs.ExponentLaws.{padded_sum_comm, padded_sum_assoc}

-- so `==` on the terms decides whether two polynomials are the same
pub same_polynomials : (f g : Polynomial) → IsCanonical deg_rev_lex f → IsCanonical deg_rev_lex g → SamePolynomial f g → f ≡ g
same_polynomials f g p q h = same_canonical deg_rev_lex deg_rev_lex_total same_exponents exponents_decide deg_rev_lex_unique f g p q h

pub SamePolynomial-append : {f g h k : Polynomial} → SamePolynomial f g → SamePolynomial h k → SamePolynomial (f ++ h) (g ++ k)
SamePolynomial-append p q = SameCoefficients-append same_exponents exponents_decide p q

pub SamePolynomial-multiply : {f g h k : Polynomial} → SamePolynomial f g → SamePolynomial h k → SamePolynomial (multiply f h) (multiply g k)
SamePolynomial-multiply p q = SameCoefficients-product same_exponents exponents_decide add_exponents p q

pub multiply_comm : (f g : Polynomial) → SamePolynomial (multiply f g) (multiply g f)
multiply_comm f g = product_comm same_exponents exponents_decide add_exponents (padded_sum_comm ◌+◌ add_comm) f g

pub multiply_assoc : (f g h : Polynomial) → SamePolynomial (multiply (multiply f g) h) (multiply f (multiply g h))
multiply_assoc f g h = product_assoc same_exponents exponents_decide add_exponents (padded_sum_assoc ◌+◌ add_assoc) f g h
