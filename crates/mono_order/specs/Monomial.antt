-- What the type `Monomial` keeps of its exponents: there is one for each variable, and their sum has a limit.
-- Source: monomials as in Ideals, Varieties, and Algorithms of Cox, Little and O'Shea, here within limits.
use Rattle.std.specs.Prelude.{◌≡◌, ℕ, ◌≤◌, length, sum, List}
use Rattle.mono_order.specs.declared.limits.TheConstants.{VARIABLES, MONO_DEGREE}

pub record IsMonomial (m : List ℕ) : Type 0 where
  pub each_variable : length m ≡ VARIABLES
  pub bounded : sum m ≤ MONO_DEGREE
