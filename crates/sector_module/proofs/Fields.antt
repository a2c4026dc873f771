-- A list of polynomials is a syzygy, as a vector, where the sum of its products is zero; and a stripped field
-- is in the module of its sector where its vector is a syzygy of the factors of the sector.
use Rattle.std.proofs.Common.{◌≡◌, ℕ, zero, suc, ◌+◌, ◌-◌, ◌*◌, ◌<◌, ◌≤◌, Bool, true, false, if◌then◌else◌, ◌↔◌, length, get_or, List, [], ◌∷◌, ◌++◌, sym, refl, ap, ◌∙◌, arith, length-append}
use Rattle.std.specs.Prelude.{slice_index}
use Rattle.std.specs.List.{AllByRecursion}
use Rattle.std.proofs.lemmas.List.{length-set}
use Rattle.ibp_algebra.specs.FormalSum.{weighted_sum, AllKeys, scale, map_keys, times_term}
use Rattle.ibp_field.proofs.Congruence.{IsCongruent-trans, IsCongruent-from_eq}
use Rattle.ibp_algebra.proofs.Weights.{weighted_sum-append, weighted_sum-scale, weighted_sum-ext, weighted_sum-mul, weighted_sum-product, weighted_sum-map_keys, weighted_sum-SameCoefficients, SameCoefficients-from_weights}
use Rattle.ibp_algebra.proofs.SumLaws.{SameCoefficients-refl, SameCoefficients-sym, SameCoefficients-trans, SameCoefficients-from_sums}
use Rattle.ibp_algebra.proofs.ZeroDivisors.{AllKeys-append, AllKeys-scale}
use Rattle.ibp_algebra.proofs.Combinations.{weighted_sum-combination}
use Rattle.ibp_algebra.specs.Exponents.{add_exponents, same_exponents}
use Rattle.ibp_algebra.specs.Polynomial.{Polynomial, SamePolynomial, multiply, derivative}
use Rattle.ibp_algebra.specs.ExponentOrder.{exponents_decide}
use Rattle.mono_order.specs.Term.{Term, same_term}
use Rattle.mono_order.proofs.Terms.{terms_decide}
use Rattle.module_vec.specs.ModuleVector.{ModuleVector, SameVector}
use Rattle.module_vec.proofs.Multiples.{AllKeys-map_keys}
use Rattle.sector_module.specs.Factors.{at_component}
use Rattle.sector_module.specs.SectorBasis.{vector_of}
use Rattle.sector_module.proofs.Syzygies.{IsPolynomialIn, sum_of_products, factor_at, value_at, IsInRange, IsSyzygy}
use Rattle.ibp_algebra.specs.Field.{unit_exponents, variable, IsInModule}
use Rattle.ibp_algebra.proofs.ModuleLaws.{stripped_derivative_from, stripped_derivative}
use Rattle.ibp_algebra.proofs.ModuleLaws.{IsInModule-from_derivative, derivative-IsInModule}
use Rattle.sector_module.specs.Factors.{factors_from}

-- ---- the value of a vector

-- each term's weight in the value
unfoldable pub value_weight : List Polynomial → (List ℕ → ℕ) → Term → ℕ
value_weight fs w t = weighted_sum (λ m. w (add_exponents t.1 m)) (factor_at fs t.0)

pub weighted_sum-value_at : (fs : List Polynomial) (w : List ℕ → ℕ) (v : ModuleVector) → weighted_sum w (value_at fs v) ≡ weighted_sum (value_weight fs w) v
unfolding value_weight
weighted_sum-value_at fs w v =
    weighted_sum-combination (λ (t : Term). map_keys (add_exponents t.1) (factor_at fs t.0)) w v
    ∙ weighted_sum-ext _ _ (λ t. weighted_sum-map_keys (add_exponents t.1) w (factor_at fs t.0)) v

-- the value depends on the coefficients alone
pub SamePolynomial-value_at : (fs : List Polynomial) (v w : ModuleVector) → SameVector v w → SamePolynomial (value_at fs v) (value_at fs w)
SamePolynomial-value_at fs v w s =
    SameCoefficients-from_weights same_exponents exponents_decide _ _ (λ x.
    IsCongruent-trans (IsCongruent-from_eq (weighted_sum-value_at fs x v))
    (IsCongruent-trans (weighted_sum-SameCoefficients same_term terms_decide (value_weight fs x) v w s) (IsCongruent-from_eq (sym (weighted_sum-value_at fs x w)))))

-- ---- lists of polynomials

-- the value at the vector of polynomials from component `first + 1` on, where the factors begin with `first` others
value_of_list : (all : List Polynomial) (w : List ℕ → ℕ) (first : ℕ) (cs gs : List Polynomial) → ((i : ℕ) → get_or all (first + i) [] ≡ get_or gs i []) → length cs ≡ length gs
    → weighted_sum (value_weight all w) (vector_of (suc first) cs) ≡ weighted_sum w (sum_of_products cs gs)
unfolding value_weight
value_of_list all w first [] gs at p = refl
value_of_list all w first (c ∷ cs) [] at p = absurd (omega arith)
value_of_list all w first (c ∷ cs) (g ∷ gs) at p =
    let place : suc first - 1 ≡ first + 0 = omega arith in
    let here : factor_at all (suc first) ≡ g = ap (λ k. get_or all k []) place ∙ at 0 in
    let term : weighted_sum (value_weight all w) (at_component (suc first) c) ≡ weighted_sum w (multiply c g) =
    weighted_sum-map_keys (λ (m : List ℕ). (suc first, m)) (value_weight all w) c
    ∙ weighted_sum-ext _ _ (λ m. ap (λ (f : Polynomial). weighted_sum (λ k. w (add_exponents m k)) f) here) c
    ∙ sym (weighted_sum-product add_exponents w c g)
    in
    let rest =
    value_of_list all w (suc first) cs gs (λ i. let e : suc first + i ≡ first + suc i = omega arith in ap (λ k. get_or all k []) e ∙ at (suc i)) (omega arith)
    in
    weighted_sum-append (value_weight all w) (at_component (suc first) c) (vector_of (suc (suc first)) cs)
    ∙ omega (arith, term, rest, weighted_sum-append w (multiply c g) (sum_of_products cs gs))

pub SamePolynomial-value_of : (fs cs : List Polynomial) → length cs ≡ length fs → SamePolynomial (value_at fs (vector_of 1 cs)) (sum_of_products cs fs)
SamePolynomial-value_of fs cs p =
    SameCoefficients-from_sums same_exponents exponents_decide _ _ (λ w.
    weighted_sum-value_at fs w (vector_of 1 cs)
    ∙ value_of_list fs w 0 cs fs (λ i. let e : 0 + i ≡ i = omega arith in ap (λ k. get_or fs k []) e) p)

in_range_from : (variables count first : ℕ) (cs : List Polynomial) → AllByRecursion (IsPolynomialIn variables) cs → first + length cs ≤ count
    → AllKeys (IsInRange variables count) (vector_of (suc first) cs)
in_range_from variables count first [] h le = tt
in_range_from variables count first (c ∷ cs) h le =
    AllKeys-append (IsInRange variables count) (at_component (suc first) c) (vector_of (suc (suc first)) cs)
    (AllKeys-map_keys (λ m. length m ≡ variables) (IsInRange variables count) (λ m. (suc first, m)) (λ m long. record { positive = omega arith; within = omega (arith, le); exponents = long }) c h.0)
    (in_range_from variables count (suc first) cs h.1 (omega (arith, le)))

-- The vector of some polynomials is a syzygy exactly where the sum of the products is zero.
pub IsSyzygy-vector_of : (variables : ℕ) (fs cs : List Polynomial) → AllByRecursion (IsPolynomialIn variables) cs → length cs ≡ length fs
    → IsSyzygy variables fs (vector_of 1 cs) ↔ SamePolynomial (sum_of_products cs fs) []
IsSyzygy-vector_of variables fs cs polynomials p = (
  λ s.
      SameCoefficients-trans (SameCoefficients-sym (SamePolynomial-value_of fs cs p))
      (SameCoefficients-trans (SamePolynomial-value_at fs (vector_of 1 cs) s.terms s.same) s.vanishes),
  λ zero.
      record {
        terms = vector_of 1 cs;
        in_range = in_range_from variables (length fs) 0 cs polynomials (omega (arith, p));
        same = SameCoefficients-refl same_term (vector_of 1 cs);
        vanishes = SameCoefficients-trans (SamePolynomial-value_of fs cs p) zero;
      },
)

-- ---- the module of a sector

weighted_sum-multiply_scale : (w : List ℕ → ℕ) (k : ℕ) (f g : Polynomial) → weighted_sum w (multiply f (scale k g)) ≡ k * weighted_sum w (multiply f g)
weighted_sum-multiply_scale w k f g =
    weighted_sum-product add_exponents w f (scale k g)
    ∙ weighted_sum-ext _ _ (λ a. weighted_sum-scale (λ b. w (add_exponents a b)) k g) f
    ∙ weighted_sum-mul k (λ a. weighted_sum (λ b. w (add_exponents a b)) g) f
    ∙ ap (λ n. k * n) (sym (weighted_sum-product add_exponents w f g))

-- the sum of the products is the combination of the f_i, and b times -p
products_are : (p b : Polynomial) (inside : ℕ → Bool) (i n : ℕ) (c : List Polynomial) → length c ≡ n → (w : List ℕ → ℕ)
    → weighted_sum w (sum_of_products (c ++ b ∷ []) (factors_from p inside i n)) ≡ weighted_sum w (stripped_derivative_from i inside c p) + 2147483646 * weighted_sum w (multiply b p)
products_are p b inside i zero [] e w =
    weighted_sum-append w (multiply b (scale 2147483646 p)) [] ∙ omega (arith, weighted_sum-multiply_scale w 2147483646 b p)
products_are p b inside i zero (c ∷ others) e w = absurd (omega arith)
products_are p b inside i (suc n) [] e w = absurd (omega arith)
products_are p b inside i (suc n) (c ∷ others) e w =
    let f = if inside i then multiply (variable i) (derivative i p) else derivative i p in
    let rest = products_are p b inside (suc i) n others (omega arith) w in
    omega (
      arith,
      rest,
      weighted_sum-append w (multiply c f) (sum_of_products (others ++ b ∷ []) (factors_from p inside (suc i) n)),
      weighted_sum-append w (multiply c f) (stripped_derivative_from (suc i) inside others p),
    )

products_zero : (p b : Polynomial) (inside : ℕ → Bool) (n : ℕ) (c : List Polynomial) → length c ≡ n
    → SamePolynomial (stripped_derivative inside c p) (multiply b p) → SamePolynomial (sum_of_products (c ++ b ∷ []) (factors_from p inside 0 n)) []
products_zero p b inside n c e h =
    SameCoefficients-from_weights same_exponents exponents_decide _ [] (λ w.
    let same = (weighted_sum-SameCoefficients same_exponents exponents_decide w _ _ h).same_residue in
    record { same_residue = omega (arith, same, products_are p b inside 0 n c e w) })

products_equation : (p b : Polynomial) (inside : ℕ → Bool) (n : ℕ) (c : List Polynomial) → length c ≡ n
    → SamePolynomial (sum_of_products (c ++ b ∷ []) (factors_from p inside 0 n)) [] → SamePolynomial (stripped_derivative inside c p) (multiply b p)
products_equation p b inside n c e h =
    SameCoefficients-from_weights same_exponents exponents_decide (stripped_derivative inside c p) (multiply b p) (λ w.
    let same = (weighted_sum-SameCoefficients same_exponents exponents_decide w _ _ h).same_residue in
    record { same_residue = omega (arith, same, products_are p b inside 0 n c e w) })

pub length-factors : (p : Polynomial) (inside : ℕ → Bool) (i n : ℕ) → length (factors_from p inside i n) ≡ n + 1
length-factors p inside i zero = refl
length-factors p inside i (suc n) = omega (arith, length-factors p inside (suc i) n)

-- A stripped field is in the module of the sector exactly where its vector is a syzygy of the factors.
pub IsInModule-syzygy : (variables : ℕ) (p b : Polynomial) (inside : ℕ → Bool) (n : ℕ) (c : List Polynomial) → length c ≡ n
    → AllByRecursion (IsPolynomialIn variables) (c ++ b ∷ []) → IsInModule p inside c b ↔ IsSyzygy variables (factors_from p inside 0 n) (vector_of 1 (c ++ b ∷ []))
IsInModule-syzygy variables p b inside n c e polynomials =
    let fs = factors_from p inside 0 n in
    let long : length (c ++ b ∷ []) ≡ length fs = omega (arith, length-append c (b ∷ []), length-factors p inside 0 n) in
    let whole = IsSyzygy-vector_of variables fs (c ++ b ∷ []) polynomials long in (
      λ h. whole.1 (products_zero p b inside n c e (derivative-IsInModule p inside c b h)),
      λ s. IsInModule-from_derivative p inside c b (products_equation p b inside n c e (whole.0 s)),
    )

-- ---- the factors are polynomials in the variables of p

pub length-unit : (i : ℕ) → length (unit_exponents i) ≡ suc i
length-unit zero = refl
length-unit (suc i) = omega (arith, length-unit i)

pub length-padded_sum-shorter : (n : ℕ) (xs ys : List ℕ) → length xs ≤ n → length ys ≡ n → length (add_exponents xs ys) ≡ n
length-padded_sum-shorter n [] ys p q = q
length-padded_sum-shorter n (x ∷ xs) [] p q = absurd (omega arith)
length-padded_sum-shorter zero (x ∷ xs) (y ∷ ys) p q = absurd (omega arith)
length-padded_sum-shorter (suc n) (x ∷ xs) (y ∷ ys) p q = omega (arith, length-padded_sum-shorter n xs ys (omega arith) (omega arith))

derivative_in : (variables i : ℕ) (p : Polynomial) → IsPolynomialIn variables p → IsPolynomialIn variables (derivative i p)
derivative_in variables i [] h = tt
derivative_in variables i (t ∷ p) h = (length-set t.0 i (slice_index t.0 i - 1) ∙ h.0, derivative_in variables i p h.1)

times_variable_in : (variables i : ℕ) → i < variables → (f : Polynomial) → IsPolynomialIn variables f → IsPolynomialIn variables (times_term add_exponents (unit_exponents i, 1) f)
times_variable_in variables i below [] h = tt
times_variable_in variables i below (t ∷ f) h = (length-padded_sum-shorter variables (unit_exponents i) t.0 (omega (arith, length-unit i, below)) h.0, times_variable_in variables i below f h.1)

factor_in : (variables i : ℕ) → i < variables → (f : Polynomial) (b : Bool) → IsPolynomialIn variables f → IsPolynomialIn variables (if b then multiply (variable i) f else f)
factor_in variables i below f true h = AllKeys-append (λ m. length m ≡ variables) (times_term add_exponents (unit_exponents i, 1) f) [] (times_variable_in variables i below f h) tt
factor_in variables i below f false h = h

factors_in : (variables : ℕ) (p : Polynomial) (inside : ℕ → Bool) → IsPolynomialIn variables p → (i n : ℕ) → i + n ≤ variables
    → AllByRecursion (IsPolynomialIn variables) (factors_from p inside i n)
factors_in variables p inside h i zero le = (AllKeys-scale (λ m. length m ≡ variables) 2147483646 p h, tt)
factors_in variables p inside h i (suc n) le =
    (factor_in variables i (omega (arith, le)) (derivative i p) (inside i) (derivative_in variables i p h), factors_in variables p inside h (suc i) n (omega (arith, le)))

pub sector_factors_in : (variables : ℕ) (p : Polynomial) (inside : ℕ → Bool) (n : ℕ) → IsPolynomialIn variables p → n ≤ variables
    → AllByRecursion (IsPolynomialIn variables) (factors_from p inside 0 n)
sector_factors_in variables p inside n h le = factors_in variables p inside h 0 n (omega (arith, le))
