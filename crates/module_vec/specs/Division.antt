-- The remainder of a vector by a list of monic vectors, and the S-vector of two of them.
--     first_divisor list t             the first vector of the list whose lead divides the term t
--     is_over_degree limit v           some term of v has a degree above the limit
--     subtract_multiple                v minus a factor times a power product times g, in canonical form
--     monic_of order v                 v divided by the coefficient of its lead
--     divide                           so many steps of the division, and None where they are too few
--     DividesTo                        the division ends so, after some number of steps
--     ReducesTo                        what holds of a vector and its remainder
--     IsRemainder                      the same in the textbook's words, for a remainder of the whole vector
--     s_vector order g h               the difference of the multiples that meet at the least common multiple of the leads
--     is_s_vector_over limit g h       the least common multiple or a term of these multiples has a degree above the limit
-- A division looks at the lead of what is left. The first vector of the list whose lead divides it is
-- subtracted in the fitting multiple, or the division is over-degree where this multiple has a term of degree
-- above the limit. Where there is no such vector, the lead moves to the remainder.
-- Source: the division algorithm for free modules and S-vectors as in Using Algebraic Geometry of Cox, Little and O'Shea.
use Rattle.std.specs.Prelude.{◌≡◌, ◌≢◌, ℕ, zero, suc, Bool, false, ◌||◌, if◌then◌else◌, nat_lt, sum, Option, Some, None, List, [], ◌∷◌, ◌++◌}
use Rattle.std.specs.declared.cmp.Ordering.{Ordering}
use Rattle.std.specs.declared.cmp.Ordering.TheVariants.{Less}
use Rattle.ibp_field.specs.Arithmetic.{neg_mod, inverse_mod}
use Rattle.ibp_algebra.specs.FormalSum.{FormalSum, AllKeys, IsCanonical, scale, normal_form}
use Rattle.ibp_algebra.specs.Combination.{combination}
use Rattle.ibp_algebra.specs.Spans.{difference}
use Rattle.mono_order.specs.Term.{Term, quotient_exponents, lcm_term, divides, IsTerm}
use Rattle.module_vec.specs.ModuleVector.{ModuleVector, SameVector, multiply_vector, lead, lead_coefficient, Multiple, multiple_value, multiple_lead, IsMultipleOf, IsVector, HasDivisor}

abbrev pub first_divisor : List ModuleVector → Term → Option ModuleVector
first_divisor [] t = None
first_divisor (g ∷ list) t = if divides (lead g) t then Some g else first_divisor list t

abbrev pub is_over_degree : ℕ → ModuleVector → Bool
is_over_degree limit [] = false
is_over_degree limit (term ∷ v) = nat_lt limit (sum term.0.1) || is_over_degree limit v

abbrev pub subtract_multiple : (Term → Term → Ordering) → ModuleVector → ℕ → List ℕ → ModuleVector → ModuleVector
subtract_multiple order v factor m g = normal_form order (v ++ scale (neg_mod factor) (multiply_vector m g))

abbrev pub monic_of : (Term → Term → Ordering) → ModuleVector → ModuleVector
monic_of order v = normal_form order (scale (inverse_mod (lead_coefficient v)) v)

-- the multiple of g whose lead is this term
abbrev pub multiple_with_lead : Term → ModuleVector → Multiple
multiple_with_lead t g = (quotient_exponents t.1 (lead g).1, g)

abbrev pub s_vector : (Term → Term → Ordering) → ModuleVector → ModuleVector → ModuleVector
s_vector order g h =
    let lcm = lcm_term (lead g) (lead h) in
    subtract_multiple order (multiple_value (multiple_with_lead lcm g)) 1 (multiple_with_lead lcm h).0 h

abbrev pub is_s_vector_over : ℕ → ModuleVector → ModuleVector → Bool
is_s_vector_over limit g h =
    let lcm = lcm_term (lead g) (lead h) in
    nat_lt limit (sum lcm.1) || (is_over_degree limit (multiple_value (multiple_with_lead lcm g)) || is_over_degree limit (multiple_value (multiple_with_lead lcm h)))

-- ---- division

pub data Division : Type 0 where
  Remainder : ModuleVector → Division
  OverDegree : Division

abbrev pub in_front : Term × ℕ → Option Division → Option Division
in_front term None = None
in_front term (Some OverDegree) = Some OverDegree
in_front term (Some (Remainder rest)) = Some (Remainder (term ∷ rest))

-- one step, by the first divisor of the lead; `continue` divides what is left
abbrev pub division_step : (Term → Term → Ordering) → ℕ → (ModuleVector → Option Division) → Option ModuleVector → Term × ℕ → ModuleVector → Option Division
division_step order limit continue None term rest = in_front term (continue rest)
division_step order limit continue (Some g) term rest =
    let multiple = multiple_with_lead term.0 g in
    if is_over_degree limit (multiple_value multiple)
    then Some OverDegree
    else continue (subtract_multiple order (term ∷ rest) term.1 multiple.0 g)

abbrev pub divide : (Term → Term → Ordering) → ℕ → List ModuleVector → ℕ → ModuleVector → Option Division
divide order limit list zero v = None
divide order limit list (suc steps) [] = Some (Remainder [])
divide order limit list (suc steps) (term ∷ rest) = division_step order limit (divide order limit list steps) (first_divisor list term.0) term rest

pub record DividesTo (order : Term → Term → Ordering) (limit : ℕ) (list : List ModuleVector) (v : ModuleVector) (division : Division) : Type 0 where
  pub steps : ℕ
  pub ends : divide order limit list steps v ≡ Some division

-- The vector v is r plus a sum of multiples of the list, where the leads of the multiples and the terms of r
-- are of the kind P, and no lead of the list divides a term of r.
pub record ReducesTo (order : Term → Term → Ordering) (variables : ℕ) (list : List ModuleVector) (P : Term → Type 0) (v r : ModuleVector) : Type 0 where
  pub canonical : IsCanonical order r
  pub terms : AllKeys (IsTerm variables) r
  pub kind : AllKeys P r
  pub reduced : AllKeys (λ t. first_divisor list t ≡ None) r
  pub summands : FormalSum Multiple
  pub multiples : AllKeys (IsMultipleOf variables list) summands
  pub leads : AllKeys (λ k. P (multiple_lead k)) summands
  pub sum : SameVector v (r ++ combination multiple_value summands)

-- The vector v minus r is a sum of multiples of the list, none of which has a term above the lead of v, and no lead of
-- the list divides a term of r.
pub record IsRemainder (order : Term → Term → Ordering) (variables : ℕ) (list : List ModuleVector) (v r : ModuleVector) : Type 0 where
  pub vector : IsVector order variables r
  pub undivided : AllKeys (λ t. ¬ HasDivisor list t) r
  pub summands : FormalSum Multiple
  pub multiples : AllKeys (IsMultipleOf variables list) summands
  pub not_above : AllKeys (λ k. AllKeys (λ t. order (lead v) t ≢ Less) (multiple_value k)) summands
  pub difference : SameVector (difference v r) (combination multiple_value summands)
