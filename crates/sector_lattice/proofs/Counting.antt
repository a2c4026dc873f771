-- Binomials, and the sums of them that count how dots and rank are spread over places.
use Rattle.std.proofs.Common.{◌≡◌, ℕ, zero, suc, ◌+◌, ◌-◌, ◌*◌, ◌/◌, ◌<◌, ◌≤◌, ◌^◌, refl, sym, ◌∙◌, ap, subst, arith, pow-suc}
use Rattle.std.proofs.Math.Pow.{pow_mono, pow_pos}
use Rattle.std.proofs.Math.Nat.{mul-div_cancel, mul-le-mul_right}
use Rattle.sector_lattice.specs.declared.integral.TheConstants.{LINES}
use Rattle.sector_lattice.specs.declared.seeding.TheConstants.{SEED_LIMIT}
use Rattle.sector_lattice.specs.Seeds.{binomial}

-- the sum of the numbers below a bound
unfoldable pub sum_below : (ℕ → ℕ) → ℕ → ℕ
sum_below f zero = 0
sum_below f (suc n) = sum_below f n + f n

pub sum_below-same : (f g : ℕ → ℕ) (n : ℕ) → ((i : ℕ) → i < n → f i ≡ g i) → sum_below f n ≡ sum_below g n
unfolding sum_below
sum_below-same f g zero h = refl
sum_below-same f g (suc n) h =
    let rest : sum_below f n ≡ sum_below g n = sum_below-same f g n (λ i below. h i (omega arith)) in
    let last : f n ≡ g n = h n (omega arith) in
    omega arith

pub sum_below-scale : (f : ℕ → ℕ) (c n : ℕ) → sum_below (λ i. f i * c) n ≡ sum_below f n * c
unfolding sum_below
sum_below-scale f c zero = omega arith
sum_below-scale f c (suc n) = let rest : sum_below (λ i. f i * c) n ≡ sum_below f n * c = sum_below-scale f c n in omega arith

sum_below-front : (f : ℕ → ℕ) (n : ℕ) → sum_below f (suc n) ≡ f 0 + sum_below (λ i. f (suc i)) n
unfolding sum_below
sum_below-front f zero = omega arith
sum_below-front f (suc n) = let rest : sum_below f (suc n) ≡ f 0 + sum_below (λ i. f (suc i)) n = sum_below-front f n in omega arith

-- a sum from its end
pub sum_below-back : (f : ℕ → ℕ) (n : ℕ) → sum_below (λ i. f (n - i)) (suc n) ≡ sum_below f (suc n)
unfolding sum_below
sum_below-back f zero = refl
sum_below-back f (suc n) =
    let first : sum_below (λ i. f (suc n - i)) (suc (suc n)) ≡ f (suc n - 0) + sum_below (λ i. f (suc n - suc i)) (suc n) = sum_below-front (λ i. f (suc n - i)) (suc n) in
    let whole : f (suc n - 0) ≡ f (suc n) = ap f (let e : suc n - 0 ≡ suc n = omega arith in e) in
    let shift : sum_below (λ i. f (suc n - suc i)) (suc n) ≡ sum_below (λ i. f (n - i)) (suc n) = sum_below-same (λ i. f (suc n - suc i)) (λ i. f (n - i)) (suc n) (λ i _. ap f (let e : suc n - suc i ≡ n - i = omega arith in e)) in
    let rest : sum_below (λ i. f (n - i)) (suc n) ≡ sum_below f (suc n) = sum_below-back f n in
    let after : sum_below (λ i. f (suc n - suc i)) (suc n) ≡ sum_below f (suc n) = shift ∙ rest in
    omega arith

pub binomial_none : (n : ℕ) → binomial n 0 ≡ 1
unfolding binomial
binomial_none zero = refl
binomial_none (suc n) = refl

binomial_above : (n k : ℕ) → n < k → binomial n k ≡ 0
unfolding binomial
binomial_above zero zero h = absurd (omega arith)
binomial_above zero (suc k) h = refl
binomial_above (suc n) zero h = absurd (omega arith)
binomial_above (suc n) (suc k) h =
    let a : binomial n k ≡ 0 = binomial_above n k (omega arith) in
    let b : binomial n (suc k) ≡ 0 = binomial_above n (suc k) (omega arith) in
    omega arith

pub binomial_all : (n : ℕ) → binomial n n ≡ 1
unfolding binomial
binomial_all zero = refl
binomial_all (suc n) =
    let a : binomial n n ≡ 1 = binomial_all n in
    let b : binomial n (suc n) ≡ 0 = binomial_above n (suc n) (omega arith) in
    omega arith

pascal : (n k : ℕ) → binomial (suc n) (suc k) ≡ binomial n k + binomial n (suc k)
unfolding binomial
pascal n k = refl

-- two that stand side by side count sets of two sizes
neighbours : (n k : ℕ) → binomial n k + binomial n (suc k) ≤ 2 ^ n
unfolding binomial
neighbours zero zero = omega arith
neighbours zero (suc k) = omega arith
neighbours (suc n) zero =
    let a : binomial n 0 + binomial n 1 ≤ 2 ^ n = neighbours n 0 in
    omega (arith, pow-suc 2 n, pow_pos n)
neighbours (suc n) (suc k) =
    let a : binomial n k + binomial n (suc k) ≤ 2 ^ n = neighbours n k in
    let b : binomial n (suc k) + binomial n (suc (suc k)) ≤ 2 ^ n = neighbours n (suc k) in
    omega (arith, pow-suc 2 n)

-- at most half of all sets are of one size
pub binomial-le_half : (n k : ℕ) → binomial n k ≤ 2 ^ (n - 1)
unfolding binomial
binomial-le_half n zero = omega (arith, binomial_none n, pow_pos (n - 1))
binomial-le_half zero (suc k) = omega arith
binomial-le_half (suc n) (suc k) = let all : binomial (suc n) (suc k) ≤ 2 ^ n = neighbours n k in let e : suc n - 1 ≡ n = omega arith in subst (λ (m : ℕ). binomial (suc n) (suc k) ≤ 2 ^ m) (sym e) all

-- the next binomial by a product and a quotient
pub binomial_next : (n k : ℕ) → suc k * binomial (suc n) (suc k) ≡ suc n * binomial n k
unfolding binomial
binomial_next zero zero = omega arith
binomial_next zero (suc k) = omega arith
binomial_next (suc n) zero =
    let a : 1 * binomial (suc n) 1 ≡ suc n * binomial n 0 = binomial_next n 0 in
    omega (arith, binomial_none n)
binomial_next (suc n) (suc k) =
    let a : suc k * binomial (suc n) (suc k) ≡ suc n * binomial n k = binomial_next n k in
    let b : suc (suc k) * binomial (suc n) (suc (suc k)) ≡ suc n * binomial n (suc k) = binomial_next n (suc k) in
    let c : binomial (suc n) (suc k) ≡ binomial n k + binomial n (suc k) = pascal n k in
    omega arith

pub ways_bound : (places spent ways : ℕ) → places + spent ≤ LINES + SEED_LIMIT → ways ≡ binomial (places + spent) spent → ways ≤ 2 ^ (LINES + SEED_LIMIT - 1)
ways_bound places spent ways few h =
    let b : binomial (places + spent) spent ≤ 2 ^ (places + spent - 1) = binomial-le_half (places + spent) spent in
    let fewer : places + spent - 1 ≤ LINES + SEED_LIMIT - 1 = omega arith in
    let most : 2 ^ (places + spent - 1) ≤ 2 ^ (LINES + SEED_LIMIT - 1) = pow_mono fewer in
    omega arith

pub ways_product : (ways factor : ℕ) → ways ≤ 2 ^ (LINES + SEED_LIMIT - 1) → factor ≤ LINES + SEED_LIMIT → ways * factor ≤ 2 ^ (LINES + SEED_LIMIT - 1) * (LINES + SEED_LIMIT)
ways_product ways factor h k = let a : ways * factor ≤ 2 ^ (LINES + SEED_LIMIT - 1) * factor = mul-le-mul_right factor h in omega arith

-- one more to spend
pub next_ways : (places spent ways : ℕ) → ways ≡ binomial (places + spent) spent → ways * (places + spent + 1) / (spent + 1) ≡ binomial (places + (spent + 1)) (spent + 1)
next_ways places spent ways h =
    let next : suc spent * binomial (suc (places + spent)) (suc spent) ≡ suc (places + spent) * binomial (places + spent) spent = binomial_next (places + spent) spent in
    let above : binomial (suc (places + spent)) (suc spent) ≡ binomial (places + (spent + 1)) (spent + 1) =
    ap (λ m. binomial m (suc spent)) (let e : suc (places + spent) ≡ places + (spent + 1) = omega arith in e) ∙ ap (binomial (places + (spent + 1))) (let e : suc spent ≡ spent + 1 = omega arith in e) in
    let swapped : suc (places + spent) * ways ≡ suc (places + spent) * binomial (places + spent) spent = ap (λ w. suc (places + spent) * w) h in
    let product : ways * (places + spent + 1) ≡ binomial (suc (places + spent)) (suc spent) * (spent + 1) = omega arith in
    let some : 0 < spent + 1 = omega arith in
    ap (λ m. m / (spent + 1)) product ∙ mul-div_cancel (binomial (suc (places + spent)) (suc spent)) some ∙ above

-- in how many ways so much is spread over k places
unfoldable pub spread : ℕ → ℕ → ℕ
spread zero zero = 1
spread zero (suc d) = 0
spread (suc k) d = binomial (k + d) d

-- at most so much
pub spread_sum : (k d : ℕ) → sum_below (spread k) (suc d) ≡ binomial (k + d) d
unfolding sum_below spread
spread_sum zero zero = sym (binomial_none 0)
spread_sum zero (suc d) =
    let a : sum_below (spread zero) (suc d) ≡ binomial (0 + d) d = spread_sum zero d in
    let b : binomial (0 + d) d ≡ 1 = ap (λ m. binomial m d) (let e : 0 + d ≡ d = omega arith in e) ∙ binomial_all d in
    let c : binomial (0 + suc d) (suc d) ≡ 1 = ap (λ m. binomial m (suc d)) (let e : 0 + suc d ≡ suc d = omega arith in e) ∙ binomial_all (suc d) in
    omega arith
spread_sum (suc k) zero = omega (arith, binomial_none (k + 0), binomial_none (suc k + 0))
spread_sum (suc k) (suc d) =
    let a : sum_below (spread (suc k)) (suc d) ≡ binomial (suc k + d) d = spread_sum (suc k) d in
    let e : suc k + d ≡ k + suc d = omega arith in
    let b : binomial (suc k + d) d ≡ binomial (k + suc d) d = ap (λ m. binomial m d) e in
    let f : suc k + suc d ≡ suc (k + suc d) = omega arith in
    let c : binomial (suc k + suc d) (suc d) ≡ binomial (k + suc d) d + binomial (k + suc d) (suc d) = ap (λ m. binomial m (suc d)) f ∙ pascal (k + suc d) d in
    omega arith

-- one place more takes some of it
pub spread_more : (k d : ℕ) → sum_below (λ e. spread k (d - e)) (suc d) ≡ spread (suc k) d
unfolding spread
spread_more k d = sum_below-back (spread k) d ∙ spread_sum k d
