-- The shifts of a field at a seed: how each of its terms moves the powers of the seed. An index β belongs
-- to z^(-β), so the shifts are a formal sum over indices.
-- After the divergence of a field times the integrand, in the Baikov representation.
--     term c z^m of a_i     c*(m_i - α_i) at the index α - m + e_i
--     term c z^m of b       γ*c at the index α - m
use Rattle.std.specs.Prelude.{◌≤◌, sum, ℕ, zero, suc, ◌*◌, ℤ, pos, ◌-ℤ◌, List, [], ◌∷◌, ◌++◌, map}
use Rattle.ibp_field.specs.Arithmetic.{int_mod}
use Rattle.ibp_algebra.specs.FormalSum.{AllKeys}
use Rattle.ibp_algebra.specs.Exponents.{first_exponents}
use Rattle.ibp_algebra.specs.Polynomial.{Polynomial}
use Rattle.ibp_algebra.specs.Laurent.{Laurent, add_powers, power_at, laurent}
use Rattle.ibp_algebra.specs.Identity.{negated}

-- the powers that raise the variable at place i by one
abbrev pub plus_unit : ℕ → List ℤ
plus_unit zero = pos 1 ∷ []
plus_unit (suc i) = pos 0 ∷ plus_unit i

-- the exponents of a monomial in n variables, as powers
abbrev pub powers_of : ℕ → List ℕ → List ℤ
powers_of n m = map pos (first_exponents n m)

abbrev pub field_shifts : ℕ → List ℤ → Laurent → Laurent
field_shifts i α a =
    map (λ term. (add_powers (add_powers α (negated term.0)) (plus_unit i), int_mod (power_at term.0 i -ℤ power_at α i) * term.1)) a

abbrev pub factor_shifts : ℕ → List ℤ → Laurent → Laurent
factor_shifts γ α b = map (λ term. (add_powers α (negated term.0), γ * term.1)) b

abbrev pub field_shifts_from : ℕ → List ℤ → List Laurent → Laurent
field_shifts_from i α [] = []
field_shifts_from i α (a ∷ others) = field_shifts i α a ++ field_shifts_from (suc i) α others

abbrev pub shifts : ℕ → ℕ → List Polynomial → Polynomial → List ℤ → Laurent
shifts n γ a b α = field_shifts_from 0 α (map (laurent n) a) ++ factor_shifts γ α (laurent n b)

-- each exponent list adds up to at most this
abbrev pub HasDegree : ℕ → Polynomial → Type 0
HasDegree degree f = AllKeys (λ m. sum m ≤ degree) f
