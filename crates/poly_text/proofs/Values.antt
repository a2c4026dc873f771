-- What the operators give is the canonical list that their definitions name.
use Rattle.std.proofs.Common.{◌≡◌, ℕ, zero, suc, ◌+◌, ◌*◌, ◌-◌, ◌<◌, ◌≤◌, List, [], ◌∷◌, ◌++◌, refl, sym, ap, subst, ◌∙◌, arith}
use Rattle.std.specs.Prelude.{Result, Ok, Err, IfOk, Some, slice_get, cond}
use Rattle.std.proofs.lemmas.Bool.{le-ltb}
use Rattle.ibp_field.specs.Arithmetic.{IsCongruent, mul_mod, inverse_mod}
use Rattle.ibp_field.proofs.Congruence.{IsCongruent-refl, IsCongruent-sym, IsCongruent-trans, IsCongruent-mul, IsCongruent-from_eq}
use Rattle.ibp_field.proofs.InverseOf.{inverse_mod-inverts}
use Rattle.ibp_algebra.specs.FormalSum.{IsCanonical, scale, with_term, normal_form, weighted_sum}
use Rattle.ibp_algebra.specs.Exponents.{same_exponents, deg_rev_lex}
use Rattle.ibp_algebra.specs.ExponentOrder.{exponents_decide, deg_rev_lex_total, deg_rev_lex_unique}
use Rattle.ibp_algebra.specs.Polynomial.{Polynomial, SamePolynomial, multiply, degree_of}
use Rattle.ibp_algebra.proofs.Weights.{weighted_sum-scale, SameCoefficients-from_weights}
use Rattle.ibp_algebra.proofs.SumLaws.{SameCoefficients-refl, SameCoefficients-sym, SameCoefficients-trans}
use Rattle.ibp_algebra.proofs.NormalForm.{IsCanonical-normal_form, SameCoefficients-normal_form}
use Rattle.ibp_algebra.proofs.PolynomialLaws.{same_polynomials, SamePolynomial-append}
use Rattle.poly_text.specs.declared.fault.TextFault.{TextFault}
use Rattle.poly_text.specs.Value.{within_terms, product_of, quotient_of, power_of, then_value}

pub same_normal_form : (f : Polynomial) → SamePolynomial (normal_form deg_rev_lex f) f
same_normal_form f = SameCoefficients-normal_form deg_rev_lex deg_rev_lex_total deg_rev_lex_unique same_exponents exponents_decide f

canonical_normal_form : (f : Polynomial) → IsCanonical deg_rev_lex (normal_form deg_rev_lex f)
canonical_normal_form f = IsCanonical-normal_form deg_rev_lex deg_rev_lex_total deg_rev_lex_unique f

pub normal_is : (p f : Polynomial) → IsCanonical deg_rev_lex p → SamePolynomial p f → p ≡ normal_form deg_rev_lex f
normal_is p f canonical same =
    same_polynomials p (normal_form deg_rev_lex f) canonical (canonical_normal_form f) (SameCoefficients-trans same (SameCoefficients-sym (same_normal_form f)))

pub normal_of_same : (f g : Polynomial) → SamePolynomial f g → normal_form deg_rev_lex f ≡ normal_form deg_rev_lex g
normal_of_same f g same = normal_is (normal_form deg_rev_lex f) g (canonical_normal_form f) (SameCoefficients-trans (same_normal_form f) same)

pub single_is : (p : Polynomial) (m k : List ℕ) (c : ℕ) → IsCanonical deg_rev_lex p → SamePolynomial p ((m, c) ∷ []) → m ≡ k → p ≡ with_term (k, c) []
single_is p m k c canonical same is = normal_is p ((m, c) ∷ []) canonical same ∙ ap (λ (l : List ℕ). with_term (l, c) []) is

-- the same of a call that may find no memory
pub normal_result : {E : Type 0} (r : Result Polynomial E) (f : Polynomial) → IfOk r (λ p. SamePolynomial p f) → IfOk r (λ p. IsCanonical deg_rev_lex p)
    → IfOk r (λ p. p ≡ normal_form deg_rev_lex f)
normal_result (Ok p) f same canonical = normal_is p f canonical same
normal_result (Err e) f same canonical = tt

pub single_result : {E : Type 0} (r : Result Polynomial E) (m k : List ℕ) (c d : ℕ) → IfOk r (λ p. SamePolynomial p ((m, c) ∷ [])) → IfOk r (λ p. IsCanonical deg_rev_lex p) → m ≡ k → c ≡ d
    → IfOk r (λ p. p ≡ with_term (k, d) [])
single_result (Ok p) m k c d same canonical is value = single_is p m k c canonical same is ∙ ap (λ (n : ℕ). with_term (k, n) []) value
single_result (Err e) m k c d same canonical is value = tt

-- a multiple may be made canonical before it is added
pub added_multiple : (f g multiple : Polynomial) (factor : ℕ) → multiple ≡ normal_form deg_rev_lex (scale factor g)
    → normal_form deg_rev_lex (f ++ multiple) ≡ normal_form deg_rev_lex (f ++ scale factor g)
added_multiple f g multiple factor is =
    ap (λ (h : Polynomial). normal_form deg_rev_lex (f ++ h)) is
    ∙ normal_of_same _ _ (SamePolynomial-append (SameCoefficients-refl same_exponents f) (same_normal_form (scale factor g)))

same_scale : (a b : ℕ) (f : Polynomial) → IsCongruent a b → SamePolynomial (scale a f) (scale b f)
same_scale a b f h =
    SameCoefficients-from_weights same_exponents exponents_decide (scale a f) (scale b f) (λ w.
    IsCongruent-trans (IsCongruent-from_eq (weighted_sum-scale w a f))
    (IsCongruent-trans (IsCongruent-mul h (IsCongruent-refl (weighted_sum w f))) (IsCongruent-from_eq (sym (weighted_sum-scale w b f)))))

-- the one inverse, whichever way it was found
one_inverse : (c r : ℕ) → 0 < c → c < 2147483647 → mul_mod c r ≡ 1 → IsCongruent r (inverse_mod c)
one_inverse c r positive below found =
    let i = inverse_mod c in
    let right : IsCongruent (c * r) 1 = record { same_residue = found } in
    let left : IsCongruent (i * c) 1 = inverse_mod-inverts c positive below in
    let a : IsCongruent r (i * c * r) = IsCongruent-trans (IsCongruent-from_eq {a = r} {b = 1 * r} (omega arith)) (IsCongruent-mul (IsCongruent-sym left) (IsCongruent-refl r)) in
    let b : IsCongruent (i * (c * r)) i = IsCongruent-trans (IsCongruent-mul (IsCongruent-refl i) right) (IsCongruent-from_eq {a = i * 1} {b = i} (omega arith)) in
    IsCongruent-trans a (IsCongruent-trans (IsCongruent-from_eq {a = i * c * r} {b = i * (c * r)} (omega arith)) b)

pub scaled_is : (c r : ℕ) (f p : Polynomial) → 0 < c → c < 2147483647 → mul_mod c r ≡ 1 → p ≡ normal_form deg_rev_lex (scale r f)
    → p ≡ normal_form deg_rev_lex (scale (inverse_mod c) f)
scaled_is c r f p positive below found is = is ∙ normal_of_same _ _ (same_scale r (inverse_mod c) f (one_inverse c r positive below found))

-- a power that fails at one product fails
pub power_fails : (at k : ℕ) (f : Polynomial) (fault : TextFault) (more : ℕ) → power_of at f k ≡ Err fault → power_of at f (more + k) ≡ Err fault
power_fails at k f fault zero h = let e : k ≡ 0 + k = omega arith in subst (λ n. power_of at f n ≡ Err fault) e h
power_fails at k f fault (suc more) h =
    let before : power_of at f (more + k) ≡ Err fault = power_fails at k f fault more h in
    let step : power_of at f (suc (more + k)) ≡ Err fault = ap (λ (r : Result Polynomial TextFault). then_value r (λ g. product_of at g f)) before in
    let e : suc (more + k) ≡ suc more + k = omega arith in
    subst (λ n. power_of at f n ≡ Err fault) e step

pub power_step : (at k : ℕ) (f h : Polynomial) → power_of at f k ≡ Ok h → power_of at f (k + 1) ≡ product_of at h f
power_step at k f h is =
    let step : power_of at f (suc k) ≡ product_of at h f = ap (λ (r : Result Polynomial TextFault). then_value r (λ g. product_of at g f)) is in
    let e : suc k ≡ k + 1 = omega arith in
    subst (λ n. power_of at f n ≡ product_of at h f) e step

pub power_stops : (at k total : ℕ) (f h : Polynomial) (fault : TextFault) → k < total → power_of at f k ≡ Ok h → Err fault ≡ product_of at h f → Err fault ≡ power_of at f total
power_stops at k total f h fault below is fails =
    let here : power_of at f (k + 1) ≡ Err fault = power_step at k f h is ∙ sym fails in
    let e : (total - (k + 1)) + (k + 1) ≡ total = omega arith in
    sym (subst (λ n. power_of at f n ≡ Err fault) e (power_fails at (k + 1) f fault (total - (k + 1)) here))

multiply-nothing : (f : Polynomial) → multiply f [] ≡ []
multiply-nothing [] = refl
multiply-nothing (t ∷ f) = multiply-nothing f

pub product_of_zero : (at : ℕ) (f g : Polynomial) → g ≡ [] → Ok [] ≡ product_of at f g
product_of_zero at [] g is = refl
product_of_zero at (t ∷ f) g is =
    ap (λ (h : Polynomial). within_terms at (normal_form deg_rev_lex h)) (sym (multiply-nothing f))
    ∙ ap (λ (h : Polynomial). product_of at (t ∷ f) h) (sym is)

pub zero_product : (at : ℕ) (f g : Polynomial) → f ≡ [] → Ok [] ≡ product_of at f g
zero_product at f g is = ap (λ (h : Polynomial). product_of at h g) (sym is)

pub quotient_is : (at : ℕ) (f g p : Polynomial) (t : List ℕ × ℕ) (r : ℕ) → Some t ≡ slice_get g 0 → IsCanonical deg_rev_lex g → degree_of g ≤ 0
    → mul_mod t.1 r ≡ 1 → p ≡ normal_form deg_rev_lex (scale r f) → Ok p ≡ quotient_of at f g
quotient_is at f [] p t r first canonical degree found is = absurd (cc)
quotient_is at f (u ∷ g) p t r first canonical degree found is =
    let same : t ≡ u = cc in
    let inverse : mul_mod u.1 r ≡ 1 = subst (λ (v : List ℕ × ℕ). mul_mod v.1 r ≡ 1) same found in
    ap (λ (h : Polynomial). Ok h) (scaled_is u.1 r f p canonical.0 canonical.1 inverse is)
    ∙ ap (λ b. cond b (Err (TextFault.NotConstant at)) (Ok (normal_form deg_rev_lex (scale (inverse_mod u.1) f)))) (sym (le-ltb 0 (degree_of (u ∷ g)) degree))
