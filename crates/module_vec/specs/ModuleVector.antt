-- Vectors of a free module over the polynomials: formal sums over terms.
--     SameVector v w                   each term has the same coefficient in both
--     multiply_vector m v              v times the power product m
--     times f v, sum_of_times fs gs    v times the polynomial f;  the sum of f_i times g_i
--     component_of i v                 the polynomial at component i
--     lead v, lead_coefficient v       the greatest term of a canonical vector that is not zero, and its coefficient
--     IsMonic v                        the coefficient at the lead is 1
--     IsConstantMultiple v w           w is v times a constant
--     IsVector, IsMonicVector          canonical, with terms in these variables;  and with the coefficient 1 at the lead
--     Multiple                         a power product and the vector that it multiplies
--     IsMember variables list v        v lies in the submodule that the vectors of the list generate
--     IsSubmodule variables Member     the vectors of the set Member are a submodule
--     IsLow high v                     each component of v is low
--     HasDivisor list t                the lead of a vector of the list divides the term t
-- Source: free modules and their submodules as in Using Algebraic Geometry of Cox, Little and O'Shea.
use Rattle.std.specs.Prelude.{◌≡◌, ℕ, Bool, if◌then◌else◌, nat_eq, true, false, length, List, [], ◌∷◌, ◌++◌}
use Rattle.std.specs.List.{Contains}
use Rattle.std.specs.declared.cmp.Ordering.{Ordering}
use Rattle.ibp_algebra.specs.FormalSum.{FormalSum, SameCoefficients, AllKeys, IsCanonical, scale, map_keys}
use Rattle.ibp_algebra.specs.Combination.{combination}
use Rattle.ibp_algebra.specs.Polynomial.{Polynomial}
use Rattle.mono_order.specs.Term.{Term, same_term, multiply_term, divides, IsTerm}

abbrev pub ModuleVector : Type 0
ModuleVector = FormalSum Term

abbrev pub SameVector : ModuleVector → ModuleVector → Type 0
SameVector v w = SameCoefficients same_term v w

abbrev pub multiply_vector : List ℕ → ModuleVector → ModuleVector
multiply_vector m v = map_keys (multiply_term m) v

abbrev pub times : Polynomial → ModuleVector → ModuleVector
times f v = combination (λ m. multiply_vector m v) f

-- the sum of f_i times g_i
abbrev pub sum_of_times : List Polynomial → List ModuleVector → ModuleVector
sum_of_times [] gs = []
sum_of_times (f ∷ fs) [] = []
sum_of_times (f ∷ fs) (g ∷ gs) = times f g ++ sum_of_times fs gs

-- the polynomial at a component
abbrev pub component_of : ℕ → ModuleVector → Polynomial
component_of i [] = []
component_of i (term ∷ terms) = if nat_eq term.0.0 i then ((term.0.1, term.1) ∷ component_of i terms) else component_of i terms

abbrev pub lead : ModuleVector → Term
lead [] = (0, [])
lead (term ∷ terms) = term.0

abbrev pub lead_coefficient : ModuleVector → ℕ
lead_coefficient [] = 0
lead_coefficient (term ∷ terms) = term.1

abbrev pub IsMonic : ModuleVector → Type 0
IsMonic v = lead_coefficient v ≡ 1

-- w is v times a constant
pub record IsConstantMultiple (v w : ModuleVector) : Type 0 where
  pub factor : ℕ
  pub multiple : SameVector w (scale factor v)

-- canonical, with terms in these variables: what the type of vectors keeps, apart from its limit on degrees
pub record IsVector (order : Term → Term → Ordering) (variables : ℕ) (v : ModuleVector) : Type 0 where
  pub canonical : IsCanonical order v
  pub terms : AllKeys (IsTerm variables) v

pub record IsMonicVector (order : Term → Term → Ordering) (variables : ℕ) (v : ModuleVector) : Type 0 where
  pub canonical : IsCanonical order v
  pub terms : AllKeys (IsTerm variables) v
  pub monic : lead_coefficient v ≡ 1

-- ---- submodules

abbrev pub Multiple : Type 0
Multiple = List ℕ × ModuleVector

abbrev pub multiple_value : Multiple → ModuleVector
multiple_value k = multiply_vector k.0 k.1

abbrev pub multiple_lead : Multiple → Term
multiple_lead k = multiply_term k.0 (lead k.1)

-- the multiple is one of a vector of the list, in these variables
pub record IsMultipleOf (variables : ℕ) (generators : List ModuleVector) (k : Multiple) : Type 0 where
  pub exponents : length k.0 ≡ variables
  pub generator : Contains generators k.1

-- The vector is a sum of multiples of the generators. A multiple by a polynomial is a sum of multiples by
-- power products, each with a coefficient.
pub record IsMember (variables : ℕ) (generators : List ModuleVector) (v : ModuleVector) : Type 0 where
  pub summands : FormalSum Multiple
  pub multiples : AllKeys (IsMultipleOf variables generators) summands
  pub sum : SameVector v (combination multiple_value summands)

-- a set of vectors that holds zero, and with any vectors their sums and multiples
pub record IsSubmodule (variables : ℕ) (Member : ModuleVector → Type 0) : Type 0 where
  pub same : (v w : ModuleVector) → SameVector v w → Member v → Member w
  pub zero : Member []
  pub sum : (v w : ModuleVector) → Member v → Member w → Member (v ++ w)
  pub scaled : (factor : ℕ) (v : ModuleVector) → Member v → Member (scale factor v)
  pub multiplied : (m : List ℕ) (v : ModuleVector) → length m ≡ variables → Member v → Member (multiply_vector m v)

-- the vector is a sum of terms of low components
pub record IsLow (high : ℕ → Bool) (v : ModuleVector) : Type 0 where
  pub low_terms : ModuleVector
  pub low : AllKeys (λ t. high t.0 ≡ false) low_terms
  pub same : SameVector v low_terms

abbrev pub HasDivisor : List ModuleVector → Term → Type 0
HasDivisor list t = (g : ModuleVector) × Contains list g × (divides (lead g) t ≡ true)
