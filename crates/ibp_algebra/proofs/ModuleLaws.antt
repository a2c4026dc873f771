-- The stripped fields of a sector are the solutions of one equation: c is in the module exactly where the
-- combination of the f_i with it equals b times P. The first condition holds of each unstripped form.
use Rattle.std.proofs.Common.{◌≡◌, ℕ, zero, suc, ◌+◌, ◌<◌, Bool, true, false, if◌then◌else◌, List, [], ◌∷◌, ◌++◌, length, get_or, sym, refl, subst, add-zero, zero-add, arith}
use Rattle.std.specs.Prelude.{IsTrue}
use Rattle.ibp_algebra.specs.FormalSum.{AllKeys}
use Rattle.ibp_algebra.proofs.SumLaws.{SameCoefficients-refl, SameCoefficients-sym, SameCoefficients-trans}
use Rattle.ibp_algebra.specs.Polynomial.{Polynomial, SamePolynomial, IsDivisibleBy, multiply, derivative, derivative_along_from}
use Rattle.ibp_algebra.specs.Field.{unit_exponents, variable, unstripped_from, unstripped, IsInModule, sector_factor}
use Rattle.ibp_algebra.proofs.ExponentLaws.{get_or-padded_sum}
use Rattle.ibp_algebra.proofs.Divisibility.{IsDivisibleBy-from_all}
use Rattle.ibp_algebra.proofs.PolynomialLaws.{SamePolynomial-append, SamePolynomial-multiply, multiply_comm, multiply_assoc}

-- the derivative of p along the unstripped form: the sum over i of c_i f_i
abbrev pub stripped_derivative_from : ℕ → (ℕ → Bool) → List Polynomial → Polynomial → Polynomial
stripped_derivative_from i in_sector [] p = []
stripped_derivative_from i in_sector (c ∷ others) p = multiply c (sector_factor p in_sector i) ++ stripped_derivative_from (suc i) in_sector others p

abbrev pub stripped_derivative : (ℕ → Bool) → List Polynomial → Polynomial → Polynomial
stripped_derivative in_sector c p = stripped_derivative_from 0 in_sector c p

-- a variable may go to either factor
variable_moved : (z c d : Polynomial) → SamePolynomial (multiply (multiply z c) d) (multiply c (multiply z d))
variable_moved z c d =
    SameCoefficients-trans (SamePolynomial-multiply (multiply_comm z c) (SameCoefficients-refl _ d)) (multiply_assoc c z d)

one_product : (i : ℕ) (c p : Polynomial) (b : Bool)
    → SamePolynomial (multiply (if b then multiply (variable i) c else c) (derivative i p)) (multiply c (if b then multiply (variable i) (derivative i p) else derivative i p))
one_product i c p true = variable_moved (variable i) c (derivative i p)
one_product i c p false = SameCoefficients-refl _ (multiply c (derivative i p))

stripped_derivative-is : (i : ℕ) (in_sector : ℕ → Bool) (c : List Polynomial) (p : Polynomial)
    → SamePolynomial (derivative_along_from i (unstripped_from i in_sector c) p) (stripped_derivative_from i in_sector c p)
stripped_derivative-is i in_sector [] p = SameCoefficients-refl _ []
stripped_derivative-is i in_sector (c ∷ others) p = SamePolynomial-append (one_product i c p (in_sector i)) (stripped_derivative-is (suc i) in_sector others p)

own_exponent : (i : ℕ) → get_or (unit_exponents i) i 0 ≡ 1
own_exponent zero = refl
own_exponent (suc i) = own_exponent i

times_variable_keys : (i : ℕ) (c : Polynomial) → AllKeys (λ m. 0 < get_or m i 0) (multiply (variable i) c)
times_variable_keys i [] = tt
times_variable_keys i (t ∷ c) =
    let exponent = get_or-padded_sum ◌+◌ 0 zero-add add-zero (unit_exponents i) t.0 i in
    (omega (arith, exponent, own_exponent i), times_variable_keys i c)

divisible_if : (i : ℕ) (c : Polynomial) (b : Bool) → IsTrue b → IsDivisibleBy i (if b then multiply (variable i) c else c)
divisible_if i c true h = IsDivisibleBy-from_all i (multiply (variable i) c) (times_variable_keys i c)
divisible_if i c false h = absurd (let clash : ⊥ = cc in clash)

unstripped_divisible : (place : ℕ) (in_sector : ℕ → Bool) (c : List Polynomial) (i : ℕ) → i < length (unstripped_from place in_sector c) → IsTrue (in_sector (place + i))
    → IsDivisibleBy (place + i) (get_or (unstripped_from place in_sector c) i [])
unstripped_divisible place in_sector [] i below h = absurd (omega arith)
unstripped_divisible place in_sector (c ∷ others) zero below h =
    let here : place + 0 ≡ place = omega arith in
    subst (λ k. IsDivisibleBy k (if in_sector place then multiply (variable place) c else c)) (sym here)
    (divisible_if place c (in_sector place) (subst (λ k. IsTrue (in_sector k)) here h))
unstripped_divisible place in_sector (c ∷ others) (suc i) below h =
    let next : place + suc i ≡ suc place + i = omega arith in
    subst (λ k. IsDivisibleBy k (get_or (unstripped_from (suc place) in_sector others) i [])) (sym next)
    (unstripped_divisible (suc place) in_sector others i (omega arith) (subst (λ k. IsTrue (in_sector k)) next h))

-- a solution of the equation is in the module
pub IsInModule-from_derivative : (p : Polynomial) (in_sector : ℕ → Bool) (c : List Polynomial) (b : Polynomial)
    → SamePolynomial (stripped_derivative in_sector c p) (multiply b p) → IsInModule p in_sector c b
IsInModule-from_derivative p in_sector c b h =
    record {
      divisible = λ i below inside.
          subst (λ k. IsDivisibleBy k (get_or (unstripped in_sector c) i [])) (zero-add i)
          (unstripped_divisible 0 in_sector c i below (subst (λ k. IsTrue (in_sector k)) (sym (zero-add i)) inside));
      tangent = SameCoefficients-trans (stripped_derivative-is 0 in_sector c p) h;
    }

-- and each member is a solution
pub derivative-IsInModule : (p : Polynomial) (in_sector : ℕ → Bool) (c : List Polynomial) (b : Polynomial)
    → IsInModule p in_sector c b → SamePolynomial (stripped_derivative in_sector c p) (multiply b p)
derivative-IsInModule p in_sector c b h = SameCoefficients-trans (SameCoefficients-sym (stripped_derivative-is 0 in_sector c p)) h.tangent
