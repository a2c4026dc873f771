-- The identity of a field at a seed. The integral with the powers α belongs to z^(-α), and the identity is
-- the one Laurent polynomial R such that R times P is the divergence of the field times P^γ z^(-α),
-- divided by P^(γ - 1):
--     R * P = sum over i of ( d_i(a_i z^(-α)) * P + γ * a_i z^(-α) * d_i P )
-- Source: integration by parts as of Chetyrkin and Tkachov, in Baikov's representation of Feynman integrals.
use Rattle.std.specs.Prelude.{◌≡◌, ℕ, suc, ℤ, pos, neg_ℤ, ◌<ℤ◌, ◌≤ℤ◌, Bool, IsTrue, IsFalse, List, [], ◌∷◌, ◌++◌, length, map}
use Rattle.std.specs.Ordering.{int_cmp, is_lt}
use Rattle.ibp_algebra.specs.FormalSum.{AllKeys, scale}
use Rattle.ibp_algebra.specs.Polynomial.{Polynomial}
use Rattle.ibp_algebra.specs.Laurent.{Laurent, SameLaurent, coefficient_at_power, multiply_laurent, power_product, power_at, laurent_derivative, laurent}

-- -α
abbrev pub negated : List ℤ → List ℤ
negated α = map neg_ℤ α

-- a_i z^(-α)
abbrev pub at_seed : Laurent → List ℤ → Laurent
at_seed a α = multiply_laurent a (power_product (negated α))

-- d_i(a_i z^(-α)) * P + γ * a_i z^(-α) * d_i P
abbrev pub divergence_term : ℕ → ℕ → Laurent → List ℤ → Laurent → Laurent
divergence_term i γ a α p =
    multiply_laurent (laurent_derivative i (at_seed a α)) p ++ scale γ (multiply_laurent (at_seed a α) (laurent_derivative i p))

abbrev pub divergence_from : ℕ → ℕ → List Laurent → List ℤ → Laurent → Laurent
divergence_from i γ [] α p = []
divergence_from i γ (a ∷ others) α p = divergence_term i γ a α p ++ divergence_from (suc i) γ others α p

-- the sum over the variables
abbrev pub divergence : ℕ → List Laurent → List ℤ → Laurent → Laurent
divergence γ a α p = divergence_from 0 γ a α p

-- r is the identity at the seed α of the field with the polynomials a, for the Baikov polynomial p in n
-- variables with exponent γ
pub record IsIdentity (n γ : ℕ) (p : Polynomial) (a : List Polynomial) (α : List ℤ) (r : Laurent) : Type 0 where
  pub identity : SameLaurent (multiply_laurent r (laurent n p)) (divergence γ (map (laurent n) a) α (laurent n p))

-- the list has n powers
abbrev pub HasPowers : ℕ → List ℤ → Type 0
HasPowers n k = length k ≡ n

-- the sector of a seed: the places of its positive powers
abbrev pub in_sector_of : List ℤ → ℕ → Bool
in_sector_of α i = is_lt (int_cmp (pos 0) (power_at α i))

-- a row over integrals, given by their powers, is that of the identity: it has at β the coefficient of
-- z^(-β), and zero where the integral is struck
pub record IsIdentityRow (n γ : ℕ) (p : Polynomial) (a : List Polynomial) (α : List ℤ) (struck : List ℤ → Bool) (row : Laurent) : Type 0 where
  pub identity : Laurent
  pub powers : AllKeys (HasPowers n) identity
  pub is_identity : IsIdentity n γ p a α identity
  pub kept : (β : List ℤ) → IsFalse (struck β) → coefficient_at_power row β ≡ coefficient_at_power identity (negated β)
  pub zero : (β : List ℤ) → IsTrue (struck β) → coefficient_at_power row β ≡ 0

-- no index that is positive at the seed rises, and no other becomes positive
pub record DoesNotRise (seed index : List ℤ) : Type 0 where
  pub positive : (j : ℕ) → pos 0 <ℤ power_at seed j → power_at index j ≤ℤ power_at seed j
  pub others : (j : ℕ) → power_at seed j ≤ℤ pos 0 → power_at index j ≤ℤ pos 0
