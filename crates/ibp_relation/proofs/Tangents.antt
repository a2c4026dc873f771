-- The loop that sums the derivatives of P along a field, and the test at its end.
use Rattle.std.proofs.Common.{◌≡◌, ℕ, suc, ◌+◌, ◌<◌, ◌≤◌, Bool, List, [], ◌∷◌, ◌++◌, length, get_or, take, sym, ap, subst, ◌∙◌, append_assoc, append-nil, arith}
use Rattle.std.specs.Bool.{Decides}
use Rattle.std.proofs.lemmas.Bool.Decides.{Decides-like}
use Rattle.std.proofs.lemmas.List.{take_more, take_all, length-take-le}
use Rattle.ibp_algebra.specs.FormalSum.{IsCanonical}
use Rattle.ibp_algebra.proofs.SumLaws.{SameCoefficients-refl, SameCoefficients-sym, SameCoefficients-trans, SameCoefficients-from_eq}
use Rattle.ibp_algebra.specs.Exponents.{same_exponents, deg_rev_lex}
use Rattle.ibp_algebra.specs.Polynomial.{Polynomial, SamePolynomial, multiply, derivative, derivative_along, derivative_along_from}
use Rattle.ibp_algebra.proofs.PolynomialLaws.{same_polynomials, SamePolynomial-append, SamePolynomial-multiply}

along_append : (place : ℕ) (a b : List Polynomial) (p : Polynomial) → derivative_along_from place (a ++ b) p ≡ derivative_along_from place a p ++ derivative_along_from (place + length a) b p
along_append place [] b p = ap (λ k. derivative_along_from k b p) (omega arith)
along_append place (f ∷ a) b p =
    ap (λ (l : Polynomial). multiply f (derivative place p) ++ l)
    (along_append (suc place) a b p ∙ ap (λ k. derivative_along_from (suc place) a p ++ derivative_along_from k b p) (omega arith))
    ∙ sym (append_assoc (multiply f (derivative place p)) (derivative_along_from (suc place) a p) (derivative_along_from (place + suc (length a)) b p))

pub along_step : (a : List Polynomial) (p items derived product new f : Polynomial) (i place : ℕ) → i < length a → f ≡ get_or a i f → place ≡ i
    → SamePolynomial derived (derivative place p) → SamePolynomial product (multiply f derived) → SamePolynomial new (items ++ product)
    → SamePolynomial items (derivative_along (take i a) p) → SamePolynomial new (derivative_along (take (i + 1) a) p)
along_step a p items derived product new f i place h is here by_place times sum e =
    let long : 0 + length (take i a) ≡ i = omega (arith, length-take-le i a (omega arith)) in
    let grows : derivative_along (take (i + 1) a) p ≡ derivative_along (take i a) p ++ multiply f (derivative i p) =
    ap (λ (l : List Polynomial). derivative_along l p) (take_more a i f h ∙ ap (λ (g : Polynomial). take i a ++ g ∷ []) (sym is))
    ∙ along_append 0 (take i a) (f ∷ []) p ∙ ap (λ k. derivative_along (take i a) p ++ (multiply f (derivative k p) ++ [])) long
    ∙ ap (λ (l : Polynomial). derivative_along (take i a) p ++ l) (append-nil (multiply f (derivative i p)))
    in
    let derivative_is : SamePolynomial derived (derivative i p) = subst (λ k. SamePolynomial derived (derivative k p)) here by_place in
    let row : SamePolynomial product (multiply f (derivative i p)) =
    SameCoefficients-trans times (SamePolynomial-multiply (SameCoefficients-refl same_exponents f) derivative_is)
    in
    SameCoefficients-trans sum (SameCoefficients-trans (SamePolynomial-append e row) (SameCoefficients-from_eq (sym grows)))

-- the test compares the two sides, each by a canonical polynomial
pub Decides-tangent : (a : List Polynomial) (p sum product sides : Polynomial) (i : ℕ) (r : Bool) → length a ≤ i → IsCanonical deg_rev_lex sum → IsCanonical deg_rev_lex product
    → SamePolynomial sum (derivative_along (take i a) p) → SamePolynomial product sides → Decides r (sum ≡ product) → Decides r (SamePolynomial (derivative_along a p) sides)
Decides-tangent a p sum product sides i r whole p_sum p_product left right test =
    let all : SamePolynomial sum (derivative_along a p) = subst (λ (l : List Polynomial). SamePolynomial sum (derivative_along l p)) (take_all i a whole) left in
    Decides-like r
    (λ e. SameCoefficients-trans (SameCoefficients-sym all) (SameCoefficients-trans (SameCoefficients-from_eq e) right))
    (λ e. same_polynomials sum product p_sum p_product (SameCoefficients-trans all (SameCoefficients-trans e (SameCoefficients-sym right))))
    test
