-- The definitions at one example: P = z + 1, the field (z^2 + z ; z), γ = 5 and the seed [2], whose identity
-- is -1 at [2] and 5 at [1].
use Rattle.std.proofs.Common.{◌≡◌, List, [], ◌∷◌, refl}
use Rattle.std.specs.Prelude.{ℤ, pos, negsuc}
use Rattle.std.specs.Ordering.{int_cmp}
use Rattle.std.specs.Cmp.Lexicographic.{slice_cmp}
use Rattle.ibp_algebra.specs.FormalSum.{normal_form}
use Rattle.ibp_algebra.specs.Exponents.{deg_rev_lex}
use Rattle.ibp_algebra.specs.Polynomial.{Polynomial, multiply, derivative_along}
use Rattle.ibp_algebra.specs.Laurent.{Laurent, multiply_laurent, laurent}
use Rattle.ibp_algebra.specs.Identity.{divergence}
use Rattle.ibp_relation.specs.Shifts.{shifts}

abbrev baikov : Polynomial
baikov = (1 ∷ [], 1) ∷ (0 ∷ [], 1) ∷ []

abbrev field : Polynomial
field = (2 ∷ [], 1) ∷ (1 ∷ [], 1) ∷ []

abbrev factor : Polynomial
factor = (1 ∷ [], 1) ∷ []

abbrev seed : List ℤ
seed = pos 2 ∷ []

tangent : normal_form deg_rev_lex (derivative_along (field ∷ []) baikov) ≡ normal_form deg_rev_lex (multiply factor baikov)
tangent = refl

row : normal_form (slice_cmp int_cmp) (shifts 1 5 (field ∷ []) factor seed) ≡ (pos 2 ∷ [], 2147483646) ∷ (pos 1 ∷ [], 5) ∷ []
row = refl

-- the two sides of the equation that defines the identity, where -1 stands at z^(-2) and 5 at z^(-1)
abbrev identity : Laurent
identity = (negsuc 1 ∷ [], 2147483646) ∷ (negsuc 0 ∷ [], 5) ∷ []

equation : normal_form (slice_cmp int_cmp) (multiply_laurent identity (laurent 1 baikov))
    ≡ normal_form (slice_cmp int_cmp) (divergence 5 (laurent 1 field ∷ []) seed (laurent 1 baikov))
equation = refl
