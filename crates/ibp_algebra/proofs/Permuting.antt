-- Variables replaced by others, one factor after the other.
use Rattle.std.proofs.Common.{◌≡◌, ℕ, zero, suc, ◌+◌, ◌-◌, ◌<◌, ◌≤◌, List, [], ◌∷◌, sum, length, get_or, set, drop, sym, ap, ◌∙◌, add-one, arith}
use Rattle.std.proofs.Math.Seq.{drop-cons}
use Rattle.std.proofs.lemmas.List.Sums.{sum_by-cons}
use Rattle.std.proofs.Math.ListN.{drop_of_length-le, length-set}
use Rattle.ibp_algebra.specs.Exponents.{add_exponents, power_exponents, product_of_powers, permute_exponents}
use Rattle.ibp_algebra.proofs.ExponentLaws.{padded_sum-nil, padded_sum_assoc}
use Rattle.ibp_algebra.proofs.SumOfExponents.{sum-set}

-- a power of one variable adds to the exponent at its place
pub add-power : (xs : List ℕ) (place e : ℕ) → place < length xs → add_exponents xs (power_exponents place e) ≡ set xs place (get_or xs place 0 + e)
add-power [] place e h = absurd (omega arith)
add-power (x ∷ xs) zero e h = ap (λ l. (x + e) ∷ l) (padded_sum-nil ◌+◌ xs)
add-power (x ∷ xs) (suc place) e h = let same : x + 0 ≡ x = omega arith in λ i. same i ∷ add-power xs place e (omega arith) i

drop_at : (xs : List ℕ) (i : ℕ) → i < length xs → drop i xs ≡ get_or xs i 0 ∷ drop (i + 1) xs
drop_at xs i within = drop-cons xs i 0 within ∙ (λ n. get_or xs i 0 ∷ drop (sym (add-one i) n) xs)

-- the exponents that the first i variables give, with those of the others, are those of all
pub record Replaced (variables : ℕ) (to m xs : List ℕ) (i : ℕ) : Type 0 where
  pub long : length xs ≡ variables
  pub few : sum xs + sum (drop i m) ≡ sum m
  pub whole : add_exponents xs (product_of_powers (drop i to) (drop i m)) ≡ permute_exponents to m

pub Replaced-step : (variables : ℕ) (to m xs : List ℕ) (i : ℕ) → i < length to → i < length m → get_or to i 0 - 1 < variables → Replaced variables to m xs i
    → Replaced variables to m (set xs (get_or to i 0 - 1) (get_or xs (get_or to i 0 - 1) 0 + get_or m i 0)) (i + 1)
Replaced-step variables to m xs i p q within h =
    let place = get_or to i 0 - 1 in
    let e = get_or m i 0 in
    let inside : place < length xs = omega (arith, h.long) in
    let new = set xs place (get_or xs place 0 + e) in
    let others = product_of_powers (drop (i + 1) to) (drop (i + 1) m) in
    let step : product_of_powers (drop i to) (drop i m) ≡ add_exponents (power_exponents place e) others =
    λ n. product_of_powers (drop_at to i p n) (drop_at m i q n)
    in
    record {
      long = length-set xs place (get_or xs place 0 + e) ∙ h.long;
      few = omega (arith, h.few, sum-set xs place (get_or xs place 0 + e) inside, ap sum (drop_at m i q), sum_by-cons (λ (y : ℕ). y) e (drop (i + 1) m));
      whole = ap (λ (l : List ℕ). add_exponents l others) (sym (add-power xs place e inside))
          ∙ padded_sum_assoc ◌+◌ (λ x y z. omega arith) xs (power_exponents place e) others
          ∙ ap (add_exponents xs) (sym step)
          ∙ h.whole;
    }

pub Replaced-end : (variables : ℕ) (to m xs : List ℕ) (i : ℕ) → length to ≤ i → length m ≤ i → Replaced variables to m xs i → (xs ≡ permute_exponents to m) × (sum xs ≡ sum m)
Replaced-end variables to m xs i p q h =
    let none = drop_of_length-le to p in
    let rest = drop_of_length-le m q in (
      sym (padded_sum-nil ◌+◌ xs) ∙ (λ n. add_exponents xs (product_of_powers (sym none n) (sym rest n))) ∙ h.whole,
      omega (arith, h.few, ap sum rest),
    )
