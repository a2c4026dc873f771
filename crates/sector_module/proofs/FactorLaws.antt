-- The factors that the code makes, and their degrees.
use Rattle.std.proofs.Common.{◌≡◌, ℕ, zero, suc, ◌+◌, ◌-◌, ◌*◌, ◌<◌, ◌≤◌, Bool, true, false, if◌then◌else◌, List, [], ◌∷◌, ◌++◌, length, set, sum, replicate, refl, ap, ◌∙◌, arith}
use Rattle.std.specs.Prelude.{slice_index}
use Rattle.std.proofs.lemmas.List.{length-set}
use Rattle.std.proofs.lemmas.List.Sums.{sum_by-cons}
use Rattle.ibp_algebra.specs.FormalSum.{AllKeys, IsCanonical, times_term}
use Rattle.ibp_algebra.specs.Exponents.{add_exponents, deg_rev_lex}
use Rattle.ibp_algebra.specs.Field.{unit_exponents, variable}
use Rattle.ibp_algebra.specs.Polynomial.{Polynomial, SamePolynomial, degree_of, derivative, multiply}
use Rattle.ibp_algebra.proofs.SumOfExponents.{sum-add_exponents, get_or-le-sum, sum-set, one_less}
use Rattle.ibp_algebra.proofs.Degrees.{AllKeys-same, degree_within}
use Rattle.ibp_algebra.proofs.SumLaws.{SameCoefficients-from_eq, SameCoefficients-trans}
use Rattle.ibp_algebra.proofs.PolynomialLaws.{SamePolynomial-multiply}
use Rattle.ibp_algebra.proofs.ZeroDivisors.{AllKeys-append}
use Rattle.mono_order.proofs.Terms.{add_exponents-one}
use Rattle.ibp_algebra.proofs.ReverseLex.{sum-ones}
use Rattle.mono_order.specs.declared.limits.TheConstants.{VARIABLES}

-- ---- degrees

derivative_degree : (degree i : ℕ) (f : Polynomial) → AllKeys (λ m. sum m ≤ degree) f → AllKeys (λ m. sum m ≤ degree) (derivative i f)
derivative_degree degree i [] h = tt
derivative_degree degree i (t ∷ f) h = (omega (arith, one_less i t.0, h.0), derivative_degree degree i f h.1)

derivative_length : (n i : ℕ) (f : Polynomial) → AllKeys (λ m. length m ≡ n) f → AllKeys (λ m. length m ≡ n) (derivative i f)
derivative_length n i [] h = tt
derivative_length n i (t ∷ f) h = (length-set t.0 i (slice_index t.0 i - 1) ∙ h.0, derivative_length n i f h.1)

sum-unit : (i : ℕ) → sum (unit_exponents i) ≡ 1
sum-unit zero = refl
sum-unit (suc i) = omega (arith, sum_by-cons (λ (x : ℕ). x) 0 (unit_exponents i), sum-unit i)

-- ---- a variable as a monomial of all variables

pub variable_key : (n j : ℕ) (m : List ℕ) → length m ≡ n → j < n → add_exponents (set (replicate n 0) j 1) m ≡ add_exponents (unit_exponents j) m
variable_key zero j m e below = absurd (omega arith)
variable_key (suc n) j [] e below = absurd (omega arith)
variable_key (suc n) zero (x ∷ m) e below = λ i. (1 + x) ∷ add_exponents-one n m (omega arith) i
variable_key (suc n) (suc j) (x ∷ m) e below = λ i. (0 + x) ∷ variable_key n j m (omega arith) (omega arith) i

variable_terms : (n j : ℕ) → j < n → (f : Polynomial) → AllKeys (λ m. length m ≡ n) f
    → times_term add_exponents (set (replicate n 0) j 1, 1) f ≡ times_term add_exponents (unit_exponents j, 1) f
variable_terms n j below [] h = refl
variable_terms n j below (t ∷ f) h = λ i. (variable_key n j t.0 h.0 below i, 1 * t.1) ∷ variable_terms n j below f h.1 i

-- the polynomial of the variable at place j, as the code has it
abbrev pub code_variable : ℕ → Polynomial
code_variable j = (set (replicate VARIABLES 0) j 1, 1) ∷ []

pub code_variable_is : (j k : ℕ) (m : List ℕ) (v : Polynomial) → SamePolynomial v ((m, k) ∷ []) → m ≡ set (replicate VARIABLES 0) j 1 → k ≡ 1 → SamePolynomial v (code_variable j)
code_variable_is j k m v made exponents one = SameCoefficients-trans made (SameCoefficients-from_eq (λ i. (exponents i, one i) ∷ []))

pub times_variable : (j : ℕ) (p v derived product : Polynomial) → j < VARIABLES → AllKeys (λ m. length m ≡ VARIABLES) p → SamePolynomial v (code_variable j) → SamePolynomial derived (derivative j p)
    → SamePolynomial product (multiply v derived) → SamePolynomial product (multiply (variable j) (derivative j p))
times_variable j p v derived product below long made by_place times =
    SameCoefficients-trans times
    (SameCoefficients-trans (SamePolynomial-multiply made by_place)
    (SameCoefficients-from_eq (ap (λ (f : Polynomial). f ++ []) (variable_terms VARIABLES j below (derivative j p) (derivative_length VARIABLES j p long)))))

pub sum-variable : (j : ℕ) → j < VARIABLES → sum (set (replicate VARIABLES 0) j 1) ≡ 1
sum-variable j below = omega (arith, sum-set (replicate VARIABLES 0) j 1 below, sum-ones VARIABLES, get_or-le-sum (replicate VARIABLES 0) j)

pub variable_degree : (j : ℕ) (v : Polynomial) → j < VARIABLES → IsCanonical deg_rev_lex v → SamePolynomial v (code_variable j) → degree_of v ≤ 1
variable_degree j v below canonical made =
    degree_within 1 v (AllKeys-same (λ m. sum m ≤ 1) v (code_variable j) canonical made (omega (arith, sum-variable j below), tt))

pub derived_degrees : (degree j : ℕ) (derived p : Polynomial) → IsCanonical deg_rev_lex derived → SamePolynomial derived (derivative j p) → AllKeys (λ m. sum m ≤ degree) p
    → AllKeys (λ m. sum m ≤ degree) derived
derived_degrees degree j derived p canonical same h = AllKeys-same (λ m. sum m ≤ degree) derived (derivative j p) canonical same (derivative_degree degree j p h)

variable_times : (degree j : ℕ) (f : Polynomial) → AllKeys (λ m. sum m ≤ degree) f → AllKeys (λ m. sum m ≤ degree + 1) (times_term add_exponents (unit_exponents j, 1) f)
variable_times degree j [] h = tt
variable_times degree j (t ∷ f) h = (omega (arith, sum-add_exponents (unit_exponents j) t.0, sum-unit j, h.0), variable_times degree j f h.1)

pub product_degrees : (degree j : ℕ) (product p : Polynomial) → IsCanonical deg_rev_lex product → SamePolynomial product (multiply (variable j) (derivative j p)) → AllKeys (λ m. sum m ≤ degree) p
    → AllKeys (λ m. sum m ≤ degree + 1) product
product_degrees degree j product p canonical same h =
    AllKeys-same (λ m. sum m ≤ degree + 1) product (multiply (variable j) (derivative j p)) canonical same
    (AllKeys-append (λ m. sum m ≤ degree + 1) (times_term add_exponents (unit_exponents j, 1) (derivative j p)) []
    (variable_times degree j (derivative j p) (derivative_degree degree j p h)) tt)

pub degrees_more : (less more : ℕ) (f : Polynomial) → less ≤ more → AllKeys (λ m. sum m ≤ less) f → AllKeys (λ m. sum m ≤ more) f
degrees_more less more [] fits h = tt
degrees_more less more (t ∷ f) fits h = (omega (arith, h.0), degrees_more less more f fits h.1)

-- ---- by the test of the sector

pub of_sector : (b : Bool) (f inner outer : Polynomial) → b ≡ true → SamePolynomial f inner → SamePolynomial f (if b then inner else outer)
of_sector true f inner outer e h = h
of_sector false f inner outer e h = absurd (let no : ⊥ = cc in no)

pub outside_sector : (b : Bool) (f inner outer : Polynomial) → b ≡ false → SamePolynomial f outer → SamePolynomial f (if b then inner else outer)
outside_sector true f inner outer e h = absurd (let no : ⊥ = cc in no)
outside_sector false f inner outer e h = h
