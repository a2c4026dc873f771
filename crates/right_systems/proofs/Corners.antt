-- The corner of a sector has the power 1 at each line and 0 elsewhere: it is a seed, whatever the bounds are.
use Rattle.std.proofs.Common.{◌≡◌, ℕ, ◌+◌, ◌*◌, ◌-◌, true, false, if◌then◌else◌, List, [], ◌∷◌, length, map, refl, ◌∙◌, arith}
use Rattle.std.specs.Prelude.{ℤ, pos, unsigned_abs}
use Rattle.std.proofs.lemmas.List.{length-map}
use Rattle.std.proofs.lemmas.List.Sums.{sum_by-cons}
use Rattle.sector_lattice.specs.Sectors.{is_positive, sector_of, dots_of, rank_of}
use Rattle.sector_lattice.specs.Seeds.{IsSeed}

abbrev corner_power : ℤ → ℤ
corner_power power = if is_positive power then pos 1 else pos 0

abbrev pub corner : List ℤ → List ℤ
corner powers = map corner_power powers

corner_digit : (power : ℤ) → ◌≡◌ {A = ℕ} (if is_positive (corner_power power) then 1 else 0) (if is_positive power then 1 else 0)
corner_digit power =
    elim (is_positive power) as (λ b. ◌≡◌ {A = ℕ} (if is_positive (if b then pos 1 else pos 0) then 1 else 0) (if b then 1 else 0)) [ true ↦ refl | false ↦ refl ]

corner_dots : (power : ℤ) → (if is_positive (corner_power power) then unsigned_abs (corner_power power) - 1 else 0) ≡ 0
corner_dots power =
    elim (is_positive power) as (λ b. (let x : ℤ = if b then pos 1 else pos 0 in ◌≡◌ {A = ℕ} (if is_positive x then unsigned_abs x - 1 else 0) 0)) [ true ↦ refl | false ↦ refl ]

corner_rank : (power : ℤ) → (if is_positive (corner_power power) then 0 else unsigned_abs (corner_power power)) ≡ 0
corner_rank power =
    elim (is_positive power) as (λ b. (let x : ℤ = if b then pos 1 else pos 0 in ◌≡◌ {A = ℕ} (if is_positive x then 0 else unsigned_abs x) 0)) [ true ↦ refl | false ↦ refl ]

same_sector : (powers : List ℤ) → sector_of (corner powers) ≡ sector_of powers
unfolding sector_of
same_sector [] = refl
same_sector (power ∷ powers) = λ i. corner_digit power i + 2 * same_sector powers i

no_dots : (powers : List ℤ) → dots_of (corner powers) ≡ 0
no_dots [] = refl
no_dots (power ∷ powers) =
    omega (arith, sum_by-cons (λ x. if is_positive x then unsigned_abs x - 1 else 0) (corner_power power) (corner powers), corner_dots power, no_dots powers)

no_rank : (powers : List ℤ) → rank_of (corner powers) ≡ 0
no_rank [] = refl
no_rank (power ∷ powers) =
    omega (arith, sum_by-cons (λ x. if is_positive x then 0 else unsigned_abs x) (corner_power power) (corner powers), corner_rank power, no_rank powers)

pub corner_seed : (n dots rank : ℕ) (powers : List ℤ) → length powers ≡ n → IsSeed (sector_of powers) n dots rank (corner powers)
corner_seed n dots rank powers long = record {
  of_n = length-map powers corner_power ∙ long;
  of_sector = same_sector powers;
  few_dots = omega (arith, no_dots powers);
  low_rank = omega (arith, no_rank powers);
}
