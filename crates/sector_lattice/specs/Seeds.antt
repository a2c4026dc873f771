-- The seeds of a sector, and how many there are.
-- Source: the seeds of Laporta's algorithm; their number is a textbook count of lists with a given sum.
use Rattle.std.specs.Prelude.{◌≡◌, ◌≤◌, length, ℕ, ℤ, ◌+◌, ◌-◌, ◌*◌, zero, suc, List, Contains, ◌↔◌, count_ones}
use Rattle.sector_lattice.specs.Sectors.{sector_of, dots_of, rank_of, Ascends}

-- an integral of n powers in the sector, within the bounds
pub record IsSeed (sector n dots rank : ℕ) (powers : List ℤ) : Type 0 where
  pub of_n : length powers ≡ n
  pub of_sector : sector_of powers ≡ sector
  pub few_dots : dots_of powers ≤ dots
  pub low_rank : rank_of powers ≤ rank

-- the seeds and no others, each once, lowest first
pub record AreSeeds (sector n dots rank : ℕ) (seeds : List (List ℤ)) : Type 0 where
  pub members : (powers : List ℤ) → Contains seeds powers ↔ IsSeed sector n dots rank powers
  pub ascending : Ascends seeds

-- in how many ways k of n things are chosen, by Pascal's rule
unfoldable pub binomial : ℕ → ℕ → ℕ
binomial n zero = 1
binomial zero (suc k) = 0
binomial (suc n) (suc k) = binomial n k + binomial n (suc k)

-- so many dots at most are spread over the lines, and so much rank over the other variables
abbrev pub seed_number : ℕ → ℕ → ℕ → ℕ → ℕ
seed_number sector n dots rank = binomial (count_ones sector + dots) dots * binomial ((n - count_ones sector) + rank) rank
