-- The value of a tree: an operator after its operands, from left to right, and the first fault. Values are
-- canonical lists of terms, with one exponent for each variable of `Monomial`.
use Rattle.std.specs.Prelude.{ℕ, zero, suc, ◌+◌, ◌-◌, nat_lt, Bool, true, false, ◌&&◌, not, if◌then◌else◌, Option, Some, None, Result, Ok, Err, List, [], ◌∷◌, ◌++◌, length, replicate, slice_set}
use Rattle.ibp_field.specs.Arithmetic.{inverse_mod}
use Rattle.ibp_algebra.specs.FormalSum.{scale, with_term, normal_form}
use Rattle.ibp_algebra.specs.Exponents.{deg_rev_lex}
use Rattle.ibp_algebra.specs.Polynomial.{Polynomial, multiply, degree_of}
use Rattle.mono_order.specs.declared.limits.TheConstants.{VARIABLES}
use Rattle.poly_text.specs.declared.fault.TextFault.{TextFault}
use Rattle.sparse_poly.specs.declared.limits.TheConstants.{DEGREE_LIMIT, TERM_LIMIT}
use Rattle.poly_text.specs.Tree.{Tree}

-- a number as a polynomial
abbrev pub constant : ℕ → Polynomial
constant c = with_term (replicate VARIABLES 0, c) []

-- the variable z_i
abbrev pub variable_exponents : ℕ → List ℕ
variable_exponents i = slice_set (replicate VARIABLES 0) (i - 1) 1

abbrev pub variable : ℕ → Polynomial
variable i = (variable_exponents i, 1) ∷ []

abbrev pub is_zero : Polynomial → Bool
is_zero [] = true
is_zero (term ∷ terms) = false

-- the number that a constant polynomial is
abbrev pub constant_term : Polynomial → ℕ
constant_term [] = 0
constant_term (term ∷ terms) = term.1

abbrev pub within_terms : ℕ → Polynomial → Result Polynomial TextFault
within_terms at f = if nat_lt TERM_LIMIT (length f) then Err (TextFault.TermsOver at) else Ok f

abbrev pub sum_of : ℕ → Polynomial → Polynomial → Result Polynomial TextFault
sum_of at f g = within_terms at (normal_form deg_rev_lex (f ++ g))

abbrev pub difference_of : ℕ → Polynomial → Polynomial → Result Polynomial TextFault
difference_of at f g = within_terms at (normal_form deg_rev_lex (f ++ scale 2147483646 g))

abbrev pub product_of : ℕ → Polynomial → Polynomial → Result Polynomial TextFault
product_of at f g =
    if not (is_zero f) && not (is_zero g) && nat_lt DEGREE_LIMIT (degree_of f + degree_of g) then Err (TextFault.DegreeOver at)
    else within_terms at (normal_form deg_rev_lex (multiply f g))

abbrev pub quotient_of : ℕ → Polynomial → Polynomial → Result Polynomial TextFault
quotient_of at f g =
    if nat_lt 0 (degree_of g) then Err (TextFault.NotConstant at) else if is_zero g then Err (TextFault.ZeroDivisor at)
    else Ok (normal_form deg_rev_lex (scale (inverse_mod (constant_term g)) f))

abbrev pub negative_of : Polynomial → Polynomial
negative_of f = normal_form deg_rev_lex (scale 2147483646 f)

-- an operator is looked at where its operands have values
abbrev pub then_value : Result Polynomial TextFault → (Polynomial → Result Polynomial TextFault) → Result Polynomial TextFault
then_value (Ok f) go = go f
then_value (Err fault) go = Err fault

abbrev pub both_values : (Polynomial → Polynomial → Result Polynomial TextFault) → Result Polynomial TextFault → Result Polynomial TextFault → Result Polynomial TextFault
both_values operate left right = then_value left (λ f. then_value right (λ g. operate f g))

-- the product of k factors f, from the left; of none it is 1
abbrev pub power_of : ℕ → Polynomial → ℕ → Result Polynomial TextFault
power_of at f zero = Ok (constant 1)
power_of at f (suc k) = then_value (power_of at f k) (λ h. product_of at h f)

-- what a name stands for, or the fault that it stands for nothing
abbrev pub known_value : ℕ → Option Polynomial → Result Polynomial TextFault
known_value at (Some f) = Ok f
known_value at None = Err (TextFault.UnknownName at)

abbrev pub value : (List ℕ → Option Polynomial) → Tree → Result Polynomial TextFault
value names (Tree.whole k) = Ok (constant k)
value names (Tree.name word at) = known_value at (names word)
value names (Tree.negative t) = then_value (value names t) (λ f. Ok (negative_of f))
value names (Tree.plus t at u) = both_values (sum_of at) (value names t) (value names u)
value names (Tree.minus t at u) = both_values (difference_of at) (value names t) (value names u)
value names (Tree.times t at u) = both_values (product_of at) (value names t) (value names u)
value names (Tree.over t at u) = both_values (quotient_of at) (value names t) (value names u)
value names (Tree.power t at k) = then_value (value names t) (λ f. power_of at f k)
