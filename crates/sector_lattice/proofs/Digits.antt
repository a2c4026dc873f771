-- What one power more adds to the sector, the dots and the rank.
use Rattle.std.proofs.Common.{◌≡◌, ℕ, zero, suc, ◌+◌, ◌-◌, ◌*◌, ◌/◌, ◌%◌, ◌<◌, ◌^◌, Bool, true, false, cond, List, ◌∷◌, refl, ◌∙◌, ap, arith, pow-suc}
use Rattle.std.specs.Prelude.{ℤ, pos, negsuc, unsigned_abs}
use Rattle.std.proofs.lemmas.Bool.Decides.{nat_tests}
use Rattle.std.proofs.lemmas.List.Sums.{sum_by-cons}
use Rattle.sector_lattice.specs.Sectors.{dots_of, rank_of, is_positive}
use Rattle.sector_lattice.specs.Layers.{is_member, power_of}

-- what the power spends
unfoldable pub spent_in : ℤ → ℕ
spent_in p = cond (is_positive p) (unsigned_abs p - 1) (unsigned_abs p)

pub power_back : (p : ℤ) → power_of (is_positive p) (spent_in p) ≡ p
unfolding power_of spent_in
power_back (pos zero) = refl
power_back (pos (suc n)) =
    let yes : is_positive (pos (suc n)) ≡ true = grind (arith, nat_tests) in
    ap (λ b. power_of b (cond b (suc n - 1) (suc n))) yes ∙ ap pos (let e : suc (suc n - 1) ≡ suc n = omega arith in e)
power_back (negsuc n) = refl

pub positive_power : (b : Bool) (e : ℕ) → is_positive (power_of b e) ≡ b
unfolding power_of
positive_power true e = grind (arith, nat_tests)
positive_power false zero = grind (arith, nat_tests)
positive_power false (suc e) = grind (arith, nat_tests)

pub size_of_power : (b : Bool) (e : ℕ) → unsigned_abs (power_of b e) ≡ cond b (suc e) e
unfolding power_of
size_of_power true e = refl
size_of_power false zero = refl
size_of_power false (suc e) = refl

pub dots_cons : (p : ℤ) (ps : List ℤ) → dots_of (p ∷ ps) ≡ cond (is_positive p) (unsigned_abs p - 1) 0 + dots_of ps
dots_cons p ps = sum_by-cons _ p ps

pub rank_cons : (p : ℤ) (ps : List ℤ) → rank_of (p ∷ ps) ≡ cond (is_positive p) 0 (unsigned_abs p) + rank_of ps
rank_cons p ps = sum_by-cons _ p ps

-- the sector from its first digit and the rest
pub halves : (b : Bool) (s m : ℕ) → s ≡ cond b 1 0 + 2 * m → (is_member s ≡ b) × (s / 2 ≡ m)
halves true s m h = (let odd : s % 2 ≡ 1 = omega arith in grind (arith, nat_tests), omega arith)
halves false s m h = (let even : s % 2 ≡ 0 = omega arith in grind (arith, nat_tests), omega arith)

pub joined_halves : (s : ℕ) → s ≡ cond (is_member s) 1 0 + 2 * (s / 2)
joined_halves s = grind (arith, nat_tests)

pub half_below : (s n : ℕ) → s < 2 ^ suc n → s / 2 < 2 ^ n
half_below s n h = omega (arith, pow-suc 2 n)
