-- The loop that sums c_i f_i, and the test at its end.
use Rattle.std.proofs.Common.{◌≡◌, ℕ, suc, ◌+◌, ◌<◌, ◌≤◌, Bool, List, [], ◌∷◌, ◌++◌, length, get_or, take, sym, ap, subst, ◌∙◌, append_assoc, append-nil, arith}
use Rattle.std.specs.Bool.{Decides}
use Rattle.std.proofs.lemmas.Bool.Decides.{Decides-like}
use Rattle.std.proofs.lemmas.List.{take_more, take_all, length-take-le}
use Rattle.ibp_algebra.specs.FormalSum.{IsCanonical}
use Rattle.ibp_algebra.specs.Exponents.{same_exponents, deg_rev_lex}
use Rattle.ibp_algebra.specs.Field.{IsInModule}
use Rattle.ibp_algebra.proofs.ModuleLaws.{stripped_derivative_from, stripped_derivative}
use Rattle.ibp_algebra.specs.Polynomial.{Polynomial, SamePolynomial, multiply}
use Rattle.ibp_algebra.proofs.ModuleLaws.{IsInModule-from_derivative, derivative-IsInModule}
use Rattle.ibp_algebra.proofs.PolynomialLaws.{same_polynomials, SamePolynomial-append, SamePolynomial-multiply}
use Rattle.ibp_algebra.proofs.SumLaws.{SameCoefficients-refl, SameCoefficients-sym, SameCoefficients-trans, SameCoefficients-from_eq}
use Rattle.ibp_algebra.specs.Field.{sector_factor}

stripped_derivative-append : (place : ℕ) (inside : ℕ → Bool) (a b : List Polynomial) (p : Polynomial)
    → stripped_derivative_from place inside (a ++ b) p ≡ stripped_derivative_from place inside a p ++ stripped_derivative_from (place + length a) inside b p
stripped_derivative-append place inside [] b p = ap (λ k. stripped_derivative_from k inside b p) (omega arith)
stripped_derivative-append place inside (f ∷ a) b p =
    ap (λ (l : Polynomial). multiply f (sector_factor p inside place) ++ l)
    (stripped_derivative-append (suc place) inside a b p ∙ ap (λ k. stripped_derivative_from (suc place) inside a p ++ stripped_derivative_from k inside b p) (omega arith))
    ∙ sym (append_assoc (multiply f (sector_factor p inside place)) (stripped_derivative_from (suc place) inside a p) (stripped_derivative_from (place + suc (length a)) inside b p))

pub combination_step : (c : List Polynomial) (inside : ℕ → Bool) (p items factor product new f : Polynomial) (i place : ℕ) → i < length c → f ≡ get_or c i f → place ≡ i
    → SamePolynomial factor (sector_factor p inside place) → SamePolynomial product (multiply f factor) → SamePolynomial new (items ++ product)
    → SamePolynomial items (stripped_derivative inside (take i c) p) → SamePolynomial new (stripped_derivative inside (take (i + 1) c) p)
combination_step c inside p items factor product new f i place h is here by_place times sum e =
    let long : 0 + length (take i c) ≡ i = omega (arith, length-take-le i c (omega arith)) in
    let grows : stripped_derivative inside (take (i + 1) c) p ≡ stripped_derivative inside (take i c) p ++ multiply f (sector_factor p inside i) =
    ap (λ (l : List Polynomial). stripped_derivative inside l p) (take_more c i f h ∙ ap (λ (g : Polynomial). take i c ++ g ∷ []) (sym is))
    ∙ stripped_derivative-append 0 inside (take i c) (f ∷ []) p
    ∙ ap (λ k. stripped_derivative inside (take i c) p ++ (multiply f (sector_factor p inside k) ++ [])) long
    ∙ ap (λ (l : Polynomial). stripped_derivative inside (take i c) p ++ l) (append-nil (multiply f (sector_factor p inside i)))
    in
    let factor_is : SamePolynomial factor (sector_factor p inside i) = subst (λ k. SamePolynomial factor (sector_factor p inside k)) here by_place in
    let row : SamePolynomial product (multiply f (sector_factor p inside i)) =
    SameCoefficients-trans times (SamePolynomial-multiply (SameCoefficients-refl same_exponents f) factor_is)
    in
    SameCoefficients-trans sum (SameCoefficients-trans (SamePolynomial-append e row) (SameCoefficients-from_eq (sym grows)))

-- the test compares the two sides, each by a canonical polynomial
pub Decides-member : (c : List Polynomial) (inside : ℕ → Bool) (p b sum product : Polynomial) (i : ℕ) (r : Bool) → length c ≤ i → IsCanonical deg_rev_lex sum
    → IsCanonical deg_rev_lex product → SamePolynomial sum (stripped_derivative inside (take i c) p) → SamePolynomial product (multiply b p) → Decides r (sum ≡ product)
    → Decides r (IsInModule p inside c b)
Decides-member c inside p b sum product i r whole p_sum p_product left right test =
    let all : SamePolynomial sum (stripped_derivative inside c p) = subst (λ (l : List Polynomial). SamePolynomial sum (stripped_derivative inside l p)) (take_all i c whole) left in
    Decides-like r
    (λ e.
    IsInModule-from_derivative p inside c b (SameCoefficients-trans (SameCoefficients-sym all) (SameCoefficients-trans (SameCoefficients-from_eq e) right)))
    (λ m.
    same_polynomials sum product p_sum p_product
    (SameCoefficients-trans all (SameCoefficients-trans (derivative-IsInModule p inside c b m) (SameCoefficients-sym right))))
    test
