-- Degrees: no term of a derivative has a greater one.
use Rattle.std.proofs.Common.{ℕ, ◌≤◌, List, [], ◌∷◌, get_or, sum, arith}
use Rattle.std.specs.List.{All}
use Rattle.ibp_algebra.specs.FormalSum.{IsCanonical}
use Rattle.ibp_algebra.specs.Exponents.{deg_rev_lex}
use Rattle.ibp_algebra.specs.Polynomial.{Polynomial, SamePolynomial, derivative}
use Rattle.ibp_algebra.proofs.SumOfExponents.{one_less}
use Rattle.ibp_algebra.proofs.Degrees.{AllKeys-same}
use Rattle.ibp_algebra.proofs.Combinations.{AllKeys-weaker}
use Rattle.family.specs.Shapes.{IsPolynomial}
use Rattle.ibp_relation.specs.Shifts.{HasDegree}

pub HasDegree-derivative_terms : (degree i : ℕ) (f : Polynomial) → HasDegree degree f → HasDegree degree (derivative i f)
HasDegree-derivative_terms degree i [] h = tt
HasDegree-derivative_terms degree i (t ∷ f) h = (omega (arith, one_less i t.0, h.0), HasDegree-derivative_terms degree i f h.1)

pub HasDegree-derivative : (degree i : ℕ) (derived f : Polynomial) → IsCanonical deg_rev_lex derived → SamePolynomial derived (derivative i f) → HasDegree degree f → HasDegree degree derived
HasDegree-derivative degree i derived f canonical same h =
    AllKeys-same (λ m. sum m ≤ degree) derived (derivative i f) canonical same (HasDegree-derivative_terms degree i f h)

pub HasDegree-more : (less more : ℕ) (f : Polynomial) → less ≤ more → HasDegree less f → HasDegree more f
HasDegree-more less more f fits h = AllKeys-weaker (λ m. sum m ≤ less) (λ m. sum m ≤ more) (λ m within. omega arith) f h

-- the polynomials of a field
pub fields_degree : (n degree more : ℕ) (a : List Polynomial) → degree ≤ more → All (IsPolynomial n degree) a → All (HasDegree more) a
fields_degree n degree more a fits h = λ k d below. HasDegree-more degree more (get_or a k d) fits (h k d below).degree_within
