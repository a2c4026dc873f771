-- Seeds are integrals of small powers.
use Rattle.std.proofs.Common.{◌≡◌, ℕ, zero, suc, ◌+◌, ◌-◌, ◌≤◌, ◌⊎◌, inl, inr, true, false, if◌then◌else◌, List, [], ◌∷◌, length, arith}
use Rattle.std.specs.Prelude.{ℤ, pos, negsuc, ◌≤ℤ◌, unsigned_abs}
use Rattle.std.proofs.lemmas.Int.{ints}
use Rattle.std.proofs.lemmas.List.Sums.{sum_by-cons}
use Rattle.ibp_algebra.specs.Laurent.{power_at}
use Rattle.sector_lattice.specs.Sectors.{dots_of, rank_of, is_positive}
use Rattle.sector_lattice.specs.Seeds.{IsSeed}
use Rattle.sector_lattice.specs.declared.seeding.TheConstants.{SEED_LIMIT}
use Rattle.family.specs.declared.limits.TheConstants.{LEAST_POWER, GREATEST_POWER}
use Rattle.family.specs.Shapes.{ArePowers}

dots_first : (p : ℤ) (powers : List ℤ) → dots_of (p ∷ powers) ≡ (if is_positive p then unsigned_abs p - 1 else 0) + dots_of powers
dots_first p powers = sum_by-cons (λ power. if is_positive power then unsigned_abs power - 1 else 0) p powers

rank_first : (p : ℤ) (powers : List ℤ) → rank_of (p ∷ powers) ≡ (if is_positive p then 0 else unsigned_abs p) + rank_of powers
rank_first p powers = sum_by-cons (λ power. if is_positive power then 0 else unsigned_abs power) p powers

-- a power is spent on dots, but for one, or on rank
spent : (p : ℤ) → (unsigned_abs p ≤ (if is_positive p then unsigned_abs p - 1 else 0) + 1) ⊎ (unsigned_abs p ≤ (if is_positive p then 0 else unsigned_abs p))
spent p =
    elim (is_positive p) as (λ b. (unsigned_abs p ≤ (if b then unsigned_abs p - 1 else 0) + 1) ⊎ (unsigned_abs p ≤ (if b then 0 else unsigned_abs p))) [
      | true ↦ inl (omega arith)
      | false ↦ inr (omega arith)
    ]

-- so each power is within what is spent in all
power_within : (powers : List ℤ) (i : ℕ) → (unsigned_abs (power_at powers i) ≤ dots_of powers + 1) ⊎ (unsigned_abs (power_at powers i) ≤ rank_of powers)
power_within [] i = inl (omega arith)
power_within (p ∷ powers) zero =
    elim (spent p) [
      | inl dots ↦ inl (omega (arith, dots, dots_first p powers))
      | inr rank ↦ inr (omega (arith, rank, rank_first p powers))
    ]
power_within (p ∷ powers) (suc i) =
    elim (power_within powers i) [
      | inl dots ↦ inl (omega (arith, dots, dots_first p powers))
      | inr rank ↦ inr (omega (arith, rank, rank_first p powers))
    ]

between : (p : ℤ) → unsigned_abs p ≤ SEED_LIMIT + 1 → LEAST_POWER ≤ℤ p
between (pos n) h = omega (arith, ints)
between (negsuc n) h = omega (arith, ints)

below : (p : ℤ) → unsigned_abs p ≤ SEED_LIMIT + 1 → p ≤ℤ GREATEST_POWER
below (pos n) h = omega (arith, ints)
below (negsuc n) h = omega (arith, ints)

small_powers : (n : ℕ) (powers : List ℤ) → length powers ≡ n → ((i : ℕ) → unsigned_abs (power_at powers i) ≤ SEED_LIMIT + 1) → ArePowers n powers
small_powers n powers long h = record { count = long; low = λ i. between (power_at powers i) (h i); high = λ i. below (power_at powers i) (h i) }

-- the powers of a seed are small, where its dots and its rank are
pub seed_powers : (sector n dots rank : ℕ) (powers : List ℤ) → dots ≤ SEED_LIMIT → rank ≤ SEED_LIMIT → IsSeed sector n dots rank powers → ArePowers n powers
seed_powers sector n dots rank powers few low h =
    small_powers n powers h.of_n (λ i.
    elim (power_within powers i) as (λ _. unsigned_abs (power_at powers i) ≤ SEED_LIMIT + 1) [
      | inl within ↦ omega (arith, within, h.few_dots)
      | inr within ↦ omega (arith, within, h.low_rank)
    ])
