-- Equality of polynomials: their terms are equal one by one.
-- Source: textbook algebra, where a polynomial has one list of terms in descending order.
use Rattle.std.proofs.Common.{◌≡◌, ℕ, List, Bool, ◌&&◌}
use Rattle.std.specs.Prelude.{nat_eq}
use Rattle.std.specs.Bool.{Decides}
use Rattle.std.specs.Cmp.{IsEquivalence, decided, unsigned_Decides}
use Rattle.std.specs.Cmp.Lexicographic.{pointwise, pointwise_decides}
use Rattle.std.proofs.lemmas.Bool.Decides.{Decides-and, Decides-like}
use Rattle.ibp_algebra.specs.Exponents.{same_exponents}
use Rattle.ibp_algebra.specs.ExponentOrder.{exponents_decide}
use Rattle.ibp_algebra.specs.Polynomial.{Polynomial}

abbrev pub one_term : List ℕ × ℕ → List ℕ × ℕ → Bool
one_term a b = same_exponents a.0 b.0 && nat_eq a.1 b.1

abbrev pub one_polynomial : Polynomial → Polynomial → Bool
one_polynomial = pointwise one_term

terms_decide : (a b : List ℕ × ℕ) → Decides (one_term a b) (a ≡ b)
terms_decide a b = Decides-like _ (λ e i. (e.0 i, e.1 i)) (λ e. ((λ i. (e i).0), (λ i. (e i).1))) (Decides-and _ _ (exponents_decide a.0 b.0) (unsigned_Decides a.1 b.1))

-- polynomials are equal where `==` says so
pub one_polynomial-Decides : (f g : Polynomial) → Decides (one_polynomial f g) (f ≡ g)
one_polynomial-Decides = pointwise_decides terms_decide

pub one_polynomial_laws : IsEquivalence one_polynomial
one_polynomial_laws = decided one_polynomial one_polynomial-Decides
