-- The heights of power products: whole numbers that rise with the degree reverse lexicographic order.
use Rattle.std.proofs.Common.{◌≡◌, ℕ, ◌+◌, ◌-◌, ◌*◌, ◌^◌, ◌<◌, ◌≤◌, length, sum, List, [], ◌∷◌, sym, refl, ap, ◌∙◌, subst, arith}
use Rattle.std.specs.Ordering.{nat_cmp, ordering_then}
use Rattle.std.specs.Cmp.{ranked}
use Rattle.std.specs.declared.cmp.Ordering.TheVariants.{Less, Equal, Greater}
use Rattle.std.specs.FinMap.{nat_cmp-IsAntisymmetric}
use Rattle.std.proofs.Math.Nat.{pow-succ', pow-le-pow_left, one-le-pow}
use Rattle.std.proofs.lemmas.Nat.{mul-le}
use Rattle.ibp_algebra.specs.Exponents.{deg_rev_lex, exponent_digits, monomial_height}
use Rattle.ibp_algebra.specs.ExponentOrder.{deg_rev_lex_unique}
use Rattle.ibp_algebra.proofs.ReverseLex.{reverse_lex, deg_rev_lex-is}
use Rattle.ibp_algebra.proofs.SumOfExponents.{sum-cons}

reverse_lex-Equal : (xs ys : List ℕ) → length xs ≡ length ys → reverse_lex xs ys ≡ Equal → xs ≡ ys
reverse_lex-Equal [] [] p e = refl
reverse_lex-Equal [] (y ∷ ys) p e = absurd (omega arith)
reverse_lex-Equal (x ∷ xs) [] p e = absurd (omega arith)
reverse_lex-Equal (x ∷ xs) (y ∷ ys) p e =
    elim (reverse_lex xs ys) as (λ r. reverse_lex xs ys ≡ r → ordering_then r (nat_cmp y x) ≡ Equal → x ∷ xs ≡ y ∷ ys) [
      | Less ↦ λ k f. cc
      | Equal ↦ λ k f. let same : y ≡ x = nat_cmp-IsAntisymmetric y x f in λ i. sym same i ∷ reverse_lex-Equal xs ys (omega arith) k i
      | Greater ↦ λ k f. cc
    ] refl e

greater : (x y : ℕ) → nat_cmp x y ≡ Greater → y < x
greater x y e = ranked x y Greater (sym e)

digits_step : (degree x y a b : ℕ) → a < b → y ≤ degree → (degree - y) + (degree + 1) * a < (degree - x) + (degree + 1) * b
digits_step degree x y a b less le = omega (arith, mul-le (degree + 1) (a + 1) (degree + 1) b (omega arith) (omega arith))

exponent_digits-rise : (degree : ℕ) (xs ys : List ℕ) → length xs ≡ length ys → sum xs ≤ degree → sum ys ≤ degree → reverse_lex xs ys ≡ Greater → exponent_digits degree ys < exponent_digits degree xs
exponent_digits-rise degree [] ys p l m e = cc
exponent_digits-rise degree (x ∷ xs) [] p l m e = cc
exponent_digits-rise degree (x ∷ xs) (y ∷ ys) p l m e =
    let first : sum xs ≤ degree = omega (arith, sum-cons x xs) in
    let second : sum ys ≤ degree = omega (arith, sum-cons y ys) in
    let small : y ≤ degree = omega (arith, sum-cons y ys) in
    elim (reverse_lex xs ys) as (λ r. reverse_lex xs ys ≡ r → ordering_then r (nat_cmp y x) ≡ Greater → (degree - y) + (degree + 1) * exponent_digits degree ys < (degree - x) + (degree + 1) * exponent_digits degree xs) [
      | Less ↦ λ k f. cc
      | Equal ↦ λ k f.
          let same = ap (exponent_digits degree) (reverse_lex-Equal xs ys (omega arith) k) in
          let less : x < y = greater y x f in
          let product = ap (λ n. (degree + 1) * n) same in
          omega (arith, less, small, product)
      | Greater ↦ λ k f. digits_step degree x y (exponent_digits degree ys) (exponent_digits degree xs) (exponent_digits-rise degree xs ys (omega arith) first second k) small
    ] refl e

digits_bound_step : (degree x a b : ℕ) → a < b → (degree - x) + (degree + 1) * a < (degree + 1) * b
digits_bound_step degree x a b less = omega (arith, mul-le (degree + 1) (a + 1) (degree + 1) b (omega arith) (omega arith))

exponent_digits-bound : (degree : ℕ) (xs : List ℕ) → exponent_digits degree xs < (degree + 1) ^ length xs
exponent_digits-bound degree [] = omega (arith, one-le-pow 0 (degree + 1) (omega arith))
exponent_digits-bound degree (x ∷ xs) =
    let rest = digits_bound_step degree x (exponent_digits degree xs) ((degree + 1) ^ length xs) (exponent_digits-bound degree xs) in
    omega (arith, rest, pow-succ' (degree + 1) (length xs))

-- the heights of power products of one degree lie between these bounds
monomial_height-below : (m : List ℕ) → monomial_height m < (sum m + 1) * (sum m + 1) ^ length m
monomial_height-below m = omega (arith, exponent_digits-bound (sum m) m)

degree_step : (a b n : ℕ) → a < b → (a + 1) * (a + 1) ^ n ≤ b * (b + 1) ^ n
degree_step a b n less = mul-le (a + 1) ((a + 1) ^ n) b ((b + 1) ^ n) (omega arith) (pow-le-pow_left (omega arith) n)

-- a lesser degree gives a lesser height
monomial_height-degree : (a b : List ℕ) → length a ≡ length b → sum a < sum b → monomial_height a < monomial_height b
monomial_height-degree a b p less =
    let step = degree_step (sum a) (sum b) (length a) less in
    let same = ap (λ n. sum b * (sum b + 1) ^ n) p in
    omega (arith, monomial_height-below a, step, same)

-- The height rises with the order.
monomial_height-rise : (a b : List ℕ) → length a ≡ length b → deg_rev_lex a b ≡ Greater → monomial_height b < monomial_height a
monomial_height-rise a b p e =
    elim (nat_cmp (sum a) (sum b)) as (λ r. nat_cmp (sum a) (sum b) ≡ r → ordering_then r (reverse_lex a b) ≡ Greater → monomial_height b < monomial_height a) [
      | Less ↦ λ k f. cc
      | Equal ↦ λ k f.
          let same : sum a ≡ sum b = nat_cmp-IsAntisymmetric (sum a) (sum b) k in
          let rise = exponent_digits-rise (sum a) a b p (omega arith) (omega arith) f in
          let rise_at : exponent_digits (sum b) b < exponent_digits (sum a) a = subst (λ n. exponent_digits n b < exponent_digits (sum a) a) same rise in
          let first : sum a * (sum a + 1) ^ length a ≡ sum b * (sum b + 1) ^ length b = λ i. same i * (same i + 1) ^ p i in
          omega (arith, rise_at, first)
      | Greater ↦ λ k f. monomial_height-degree b a (sym p) (greater (sum a) (sum b) k)
    ] refl (sym (deg_rev_lex-is a b p) ∙ e)

monomial_height-bound : (m : List ℕ) (limit : ℕ) → sum m ≤ limit → monomial_height m < (limit + 1) * (limit + 1) ^ length m
monomial_height-bound m limit small =
    omega (arith, monomial_height-below m, mul-le (sum m + 1) ((sum m + 1) ^ length m) (limit + 1) ((limit + 1) ^ length m) (omega arith) (pow-le-pow_left (omega arith) (length m)))

-- ---- with the number of a component below 256, of which the lower one is greater

pub numbered_height-rise : (i j : ℕ) (a b : List ℕ) → length a ≡ length b → j < 256 → ordering_then (deg_rev_lex a b) (nat_cmp j i) ≡ Greater
    → 256 * monomial_height b + (255 - j) < 256 * monomial_height a + (255 - i)
numbered_height-rise i j a b p small e =
    elim (deg_rev_lex a b) as (λ r. deg_rev_lex a b ≡ r → ordering_then r (nat_cmp j i) ≡ Greater → 256 * monomial_height b + (255 - j) < 256 * monomial_height a + (255 - i)) [
      | Less ↦ λ k f. cc
      | Equal ↦ λ k f.
          let same = ap monomial_height (deg_rev_lex_unique a b k) in
          omega (arith, same, greater j i f, small)
      | Greater ↦ λ k f. omega (arith, monomial_height-rise a b p k)
    ] refl e

pub numbered_height-bound : (n limit j : ℕ) (m : List ℕ) → length m ≡ n → sum m ≤ limit → 256 * monomial_height m + (255 - j) < 256 * ((limit + 1) * (limit + 1) ^ n)
numbered_height-bound n limit j m p small =
    let below = monomial_height-bound m limit small in
    let same = ap (λ k. (limit + 1) * (limit + 1) ^ k) p in
    omega (arith, below, same)
