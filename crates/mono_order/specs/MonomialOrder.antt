-- The laws of an order of power products. Exponents have no upper bound, and there are as many as there are
-- variables.
-- Source: monomial orders as in Ideals, Varieties, and Algorithms of Cox, Little and O'Shea.
use Rattle.std.specs.Prelude.{◌≡◌, ◌≢◌, ℕ, length, replicate, List}
use Rattle.std.specs.Cmp.{IsTotalOrder}
use Rattle.std.specs.FinMap.{IsAntisymmetric}
use Rattle.std.specs.declared.cmp.Ordering.{Ordering}
use Rattle.std.specs.declared.cmp.Ordering.TheVariants.{Less}
use Rattle.ibp_algebra.specs.Exponents.{add_exponents}

pub record IsMonomialOrder (variables : ℕ) (order : List ℕ → List ℕ → Ordering) : Type 0 where
  pub total : IsTotalOrder order
  pub unique : IsAntisymmetric order
  pub kept : (m a b : List ℕ) → length m ≡ variables → length a ≡ variables → length b ≡ variables
      → order (add_exponents m a) (add_exponents m b) ≡ order a b
  pub one_least : (m : List ℕ) → length m ≡ variables → order m (replicate variables 0) ≢ Less
