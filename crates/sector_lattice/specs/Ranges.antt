-- Ranges.
--     InRange powers                     the powers that an integral may have: from one to LINES, each from -POWER to POWER
--     IsSectorOf sector n                a sector of so many variables
--     HasSeedBounds sector n dots rank   a sector of so many variables, and bounds that its seeds may have
-- Source: limits of our own.
use Rattle.std.specs.Prelude.{ℕ, ◌<◌, ◌≤◌, ◌^◌, ◌≤ℤ◌, neg_ℤ, length, All, ℤ, List}
use Rattle.sector_lattice.specs.declared.integral.TheConstants.{LINES, POWER}
use Rattle.sector_lattice.specs.declared.seeding.TheConstants.{SEED_LIMIT}

abbrev pub AreSmall : List ℤ → Type 0
AreSmall powers = All (λ power. (neg_ℤ POWER ≤ℤ power) × (power ≤ℤ POWER)) powers

pub record InRange (powers : List ℤ) : Type 0 where
  pub some : 1 ≤ length powers
  pub few : length powers ≤ LINES
  pub small : AreSmall powers

pub record IsSectorOf (sector n : ℕ) : Type 0 where
  pub some : 1 ≤ n
  pub few : n ≤ LINES
  pub within : sector < 2 ^ n

pub record HasSeedBounds (sector n dots rank : ℕ) : Type 0 where
  pub is_sector : IsSectorOf sector n
  pub few_dots : dots ≤ SEED_LIMIT
  pub low_rank : rank ≤ SEED_LIMIT
