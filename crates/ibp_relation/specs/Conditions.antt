-- What is said of a field at a seed beside the two conditions. The variables of a sector are given by a test on
-- their places.
-- The conditions are those of the module intersection method (Boehm, Georgoudis, Larsen, Schoenemann, Zhang), and that
-- no power rises is what they are made for.
--     IsFirstUndivided inside a i        z_i is the first variable of the sector that does not divide its polynomial
--     NoneRises n γ p a α                in the identity no power that is positive at the seed rises, and no other
--                                        becomes positive
--     NoneRisesInModule n γ p α          so for each stripped field of the module of the seed's sector
use Rattle.std.specs.Prelude.{◌≢◌, ℕ, ◌-◌, ◌<◌, ◌≤◌, ℤ, Bool, IsTrue, List, [], length, slice_index_or}
use Rattle.ibp_algebra.specs.FormalSum.{AllKeys}
use Rattle.ibp_algebra.specs.Polynomial.{Polynomial, IsDivisibleBy}
use Rattle.ibp_algebra.specs.Field.{IsDividedAt, unstripped}
use Rattle.ibp_algebra.specs.Laurent.{Laurent, coefficient_at_power}
use Rattle.ibp_algebra.specs.Identity.{negated, HasPowers, in_sector_of, IsIdentity, DoesNotRise}
use Rattle.mono_order.specs.declared.limits.TheConstants.{RUN_DEGREE}
use Rattle.sector_lattice.specs.Sectors.{sector_of}
use Rattle.family.specs.Conditions.{IsInSectorModule}
use Rattle.family.specs.Shapes.{IsField}
use Rattle.family.specs.declared.parts.StrippedField.{StrippedField}

-- variables are counted from 1, and places from 0
pub record IsFirstUndivided (inside : ℕ → Bool) (a : List Polynomial) (i : ℕ) : Type 0 where
  pub some : 1 ≤ i
  pub within : i ≤ length a
  pub in_sector : IsTrue (inside (i - 1))
  pub undivided : ¬ (IsDivisibleBy (i - 1) (slice_index_or a (i - 1) []))
  pub earlier : (place : ℕ) → place < i - 1 → IsDividedAt inside a place

-- whichever Laurent polynomial is the identity: β has in it the coefficient of z^(-β)
abbrev pub NoneRises : ℕ → ℕ → Polynomial → List Polynomial → List ℤ → Type 0
NoneRises n γ p a α =
    (r : Laurent) → AllKeys (HasPowers n) r → IsIdentity n γ p a α r → (β : List ℤ) → coefficient_at_power r (negated β) ≢ 0 → DoesNotRise α β

abbrev pub NoneRisesInModule : ℕ → ℕ → Polynomial → List ℤ → Type 0
NoneRisesInModule n γ p α =
    (field : StrippedField) → IsField n RUN_DEGREE field.c field.b → IsInSectorModule p (sector_of α) field
    → NoneRises n γ p (unstripped (in_sector_of α) field.c) α
