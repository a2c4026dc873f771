-- Shapes of polynomials, fields and integrals in n variables.
--     HasVariables n m            as many exponents as a monomial has, of which those from place n on are zero
--     IsPolynomial n degree p     canonical, with no variable above z_n, of at most this degree
--     IsField n degree a b        n such polynomials and a factor
--     ArePowers n powers          n powers from the least to the greatest
use Rattle.std.specs.Prelude.{◌≡◌, ℕ, ◌≤◌, ℤ, ◌≤ℤ◌, List, length, sum, slice_index_or}
use Rattle.std.specs.List.{All}
use Rattle.ibp_algebra.specs.FormalSum.{AllKeys, IsCanonical}
use Rattle.ibp_algebra.specs.Exponents.{deg_rev_lex}
use Rattle.ibp_algebra.specs.Laurent.{power_at}
use Rattle.ibp_algebra.specs.Polynomial.{Polynomial}
use Rattle.mono_order.specs.declared.limits.TheConstants.{VARIABLES}
use Rattle.family.specs.declared.limits.TheConstants.{LEAST_POWER, GREATEST_POWER}

pub record HasVariables (n : ℕ) (m : List ℕ) : Type 0 where
  pub each_variable : length m ≡ VARIABLES
  pub none_beyond : (i : ℕ) → n ≤ i → slice_index_or m i 0 ≡ 0

pub record IsPolynomial (n degree : ℕ) (p : Polynomial) : Type 0 where
  pub canonical : IsCanonical deg_rev_lex p
  pub variables : AllKeys (HasVariables n) p
  pub degree_within : AllKeys (λ m. sum m ≤ degree) p

pub record IsField (n degree : ℕ) (a : List Polynomial) (b : Polynomial) : Type 0 where
  pub count : length a ≡ n
  pub polynomials : All (IsPolynomial n degree) a
  pub factor : IsPolynomial n degree b

pub record ArePowers (n : ℕ) (powers : List ℤ) : Type 0 where
  pub count : length powers ≡ n
  pub low : (i : ℕ) → LEAST_POWER ≤ℤ power_at powers i
  pub high : (i : ℕ) → power_at powers i ≤ℤ GREATEST_POWER
