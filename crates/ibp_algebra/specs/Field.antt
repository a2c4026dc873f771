-- Fields (a_1 .. a_n ; b) and the two conditions on them. The variables of a sector are given by a test on
-- their places in a list of exponents, which are counted from 0.
--     IsDivided in_sector a               the first condition: z_i divides a_i for each i in the sector
--     IsTangent p a b                     the second: the sum over i of a_i times the derivative of p by z_i
--                                         equals b times p
--     MeetsConditions p in_sector a b     both
--     unstripped in_sector c              a_i is z_i c_i for i in the sector, and c_i elsewhere
--     IsInModule p in_sector c b          the unstripped form meets both conditions
--     sector_factor p in_sector i         f_i: the derivative of p by z_i, times z_i for i in the sector
-- Source: Baikov's representation of Feynman integrals. The first condition is that of Gluza, Kajda and Kosower,
-- the equation with p that of Ita and of Larsen and Zhang, and the module of both that of Böhm, Georgoudis, Larsen,
-- Schulze and Zhang.
use Rattle.std.specs.Prelude.{ℕ, suc, ◌<◌, Bool, IsTrue, if◌then◌else◌, List, [], ◌∷◌, length, slice_index_or}
use Rattle.ibp_algebra.specs.Exponents.{power_exponents}
use Rattle.ibp_algebra.specs.Polynomial.{Polynomial, SamePolynomial, IsDivisibleBy, multiply, derivative, derivative_along}

abbrev pub IsDividedAt : (ℕ → Bool) → List Polynomial → ℕ → Type 0
IsDividedAt in_sector a i = IsTrue (in_sector i) → IsDivisibleBy i (slice_index_or a i [])

abbrev pub IsDivided : (ℕ → Bool) → List Polynomial → Type 0
IsDivided in_sector a = (i : ℕ) → i < length a → IsDividedAt in_sector a i

abbrev pub IsTangent : Polynomial → List Polynomial → Polynomial → Type 0
IsTangent p a b = SamePolynomial (derivative_along a p) (multiply b p)

pub record MeetsConditions (p : Polynomial) (in_sector : ℕ → Bool) (a : List Polynomial) (b : Polynomial) : Type 0 where
  pub divisible : IsDivided in_sector a
  pub tangent : IsTangent p a b

-- the exponents of the variable at place i
abbrev pub unit_exponents : ℕ → List ℕ
unit_exponents i = power_exponents i 1

abbrev pub variable : ℕ → Polynomial
variable i = (unit_exponents i, 1) ∷ []

abbrev pub unstripped_from : ℕ → (ℕ → Bool) → List Polynomial → List Polynomial
unstripped_from i in_sector [] = []
unstripped_from i in_sector (c ∷ others) =
    (if in_sector i then multiply (variable i) c else c) ∷ unstripped_from (suc i) in_sector others

abbrev pub unstripped : (ℕ → Bool) → List Polynomial → List Polynomial
unstripped in_sector c = unstripped_from 0 in_sector c

abbrev pub IsInModule : Polynomial → (ℕ → Bool) → List Polynomial → Polynomial → Type 0
IsInModule p in_sector c b = MeetsConditions p in_sector (unstripped in_sector c) b

abbrev pub sector_factor : Polynomial → (ℕ → Bool) → ℕ → Polynomial
sector_factor p in_sector i = if in_sector i then multiply (variable i) (derivative i p) else derivative i p
