-- The syzygies of polynomials f_1 to f_k: the vectors with components 1 to k whose component i, times f_i,
-- adds up to zero. They are found by elimination in the module that the vectors f_i e_0 + e_i generate.
--     IsPolynomialIn variables f          each term of f has an exponent for each variable
--     sum_of_products cs fs               the sum of c_i times f_i
--     factor_at fs i                      f_i, counted from 1
--     value_at fs v                       the sum of f_i times component i of v
--     IsSyzygy variables fs v             v is a syzygy
use Rattle.std.specs.Prelude.{◌≡◌, ℕ, ◌-◌, ◌<◌, ◌≤◌, length, get_or, List, [], ◌∷◌, ◌++◌}
use Rattle.ibp_algebra.specs.FormalSum.{AllKeys, map_keys}
use Rattle.ibp_algebra.specs.Combination.{combination}
use Rattle.ibp_algebra.specs.Exponents.{add_exponents}
use Rattle.ibp_algebra.specs.Polynomial.{Polynomial, SamePolynomial, multiply}
use Rattle.mono_order.specs.Term.{Term}
use Rattle.module_vec.specs.ModuleVector.{ModuleVector, SameVector}

abbrev pub IsPolynomialIn : ℕ → Polynomial → Type 0
IsPolynomialIn variables f = AllKeys (λ m. length m ≡ variables) f

abbrev pub sum_of_products : List Polynomial → List Polynomial → Polynomial
sum_of_products [] fs = []
sum_of_products (c ∷ cs) [] = []
sum_of_products (c ∷ cs) (f ∷ fs) = multiply c f ++ sum_of_products cs fs

abbrev pub factor_at : List Polynomial → ℕ → Polynomial
factor_at fs i = get_or fs (i - 1) []

-- a term c z^m e_i gives c z^m f_i
abbrev pub value_at : List Polynomial → ModuleVector → Polynomial
value_at fs v = combination (λ t. map_keys (add_exponents t.1) (factor_at fs t.0)) v

-- a term of one of the components 1 to `count`
pub record IsInRange (variables count : ℕ) (t : Term) : Type 0 where
  pub positive : 0 < t.0
  pub within : t.0 ≤ count
  pub exponents : length t.1 ≡ variables

pub record IsSyzygy (variables : ℕ) (fs : List Polynomial) (v : ModuleVector) : Type 0 where
  pub terms : ModuleVector
  pub in_range : AllKeys (IsInRange variables (length fs)) terms
  pub same : SameVector v terms
  pub vanishes : SamePolynomial (value_at fs terms) []
