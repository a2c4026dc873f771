-- Orders of module terms. Some components are high: each of their terms is above every term of the others,
-- which are low. Each order below is of this form: the monomial decides within the high terms and within the
-- low ones, and at equal monomials the lower component is greater.
--     block_order high         the order whose high components are those of the test
--     over_position            no component is high
--     zero_dominates           component 0 alone is high
--     high_block               the components from FIRST_HIGH up are high
--     block_height t, block_bound     a whole number that is less for the lesser of two high terms, or of two low ones;
--                              and one that is above those of bounded terms
--     IsTermOrder              the laws of an order of terms
-- Source: the order term over position, and orders that eliminate components, as in Using Algebraic Geometry of Cox, Little and O'Shea.
use Rattle.std.specs.Prelude.{◌≡◌, ◌≢◌, ℕ, ◌+◌, ◌-◌, ◌*◌, ◌^◌, ◌<◌, ◌≤◌, Bool, true, false, nat_eq, nat_le, sum, length, replicate, List}
use Rattle.std.specs.Cmp.{IsTotalOrder}
use Rattle.std.specs.FinMap.{IsAntisymmetric}
use Rattle.std.specs.Ordering.{nat_cmp, bool_cmp, ordering_then}
use Rattle.std.specs.declared.cmp.Ordering.{Ordering}
use Rattle.std.specs.declared.cmp.Ordering.TheVariants.{Less, Greater}
use Rattle.ibp_algebra.specs.Exponents.{deg_rev_lex, monomial_height}
use Rattle.mono_order.specs.declared.limits.TheConstants.{MONO_DEGREE, FIRST_HIGH}
use Rattle.mono_order.specs.Term.{Term, multiply_term, IsTerm}

-- the monomial decides, and at equal monomials the lower component is greater
abbrev pub over_position : Term → Term → Ordering
over_position s t = ordering_then (deg_rev_lex s.1 t.1) (nat_cmp t.0 s.0)

-- the high terms are above the low ones
abbrev pub block_order : (ℕ → Bool) → Term → Term → Ordering
block_order high s t = ordering_then (bool_cmp (high s.0) (high t.0)) (over_position s t)

abbrev pub nothing_high : ℕ → Bool
nothing_high component = false

abbrev pub zero_high : ℕ → Bool
zero_high component = nat_eq component 0

abbrev pub zero_dominates : Term → Term → Ordering
zero_dominates = block_order zero_high

abbrev pub block_high : ℕ → Bool
block_high component = nat_le FIRST_HIGH component

abbrev pub high_block : Term → Term → Ordering
high_block = block_order block_high

abbrev pub block_height : Term → ℕ
block_height t = 256 * monomial_height t.1 + (255 - t.0)

-- above each height of a term with a component below 256 and a degree of at most MONO_DEGREE
abbrev pub block_bound : ℕ → ℕ
block_bound variables = 256 * ((MONO_DEGREE + 1) * (MONO_DEGREE + 1) ^ variables)

-- The laws of an order of terms. Exponents have no upper bound, and there are as many as there are variables.
-- `bound` is above each height of a term of degree at most MONO_DEGREE.
pub record IsTermOrder (variables : ℕ) (order : Term → Term → Ordering) (high : ℕ → Bool) (height : Term → ℕ) (bound : ℕ) : Type 0 where
  pub total : IsTotalOrder order
  pub unique : IsAntisymmetric order
  pub kept : (m : List ℕ) (s t : Term) → length m ≡ variables → length s.1 ≡ variables → length t.1 ≡ variables
      → order (multiply_term m s) (multiply_term m t) ≡ order s t
  pub one_least : (component : ℕ) (m : List ℕ) → length m ≡ variables → order (component, m) (component, replicate variables 0) ≢ Less
  pub high_above : (s t : Term) → high s.0 ≡ true → high t.0 ≡ false → order s t ≡ Greater
  pub within_kind : (s t : Term) → high s.0 ≡ high t.0 → order s t ≡ over_position s t
  pub degree_first : (s t : Term) → high s.0 ≡ false → high t.0 ≡ false → sum t.1 < sum s.1 → order s t ≡ Greater
  pub height_falls : (s t : Term) → IsTerm variables s → IsTerm variables t → high s.0 ≡ high t.0 → order s t ≡ Greater → height t < height s
  pub height_bounded : (t : Term) → IsTerm variables t → sum t.1 ≤ MONO_DEGREE → height t < bound
