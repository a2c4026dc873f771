-- Numbers in front of bytes.
use Rattle.std.proofs.Common.{◌≡◌, ℕ, suc, ◌+◌, ◌-◌, ◌*◌, ◌^◌, ◌<◌, ◌≤◌, List, [], ◌∷◌, ◌++◌, length, drop, take, get_or, Bool, true, false, cond, refl, sym, ap, ◌∙◌, arith, drop-cons, rules}
use Rattle.std.specs.Prelude.{Option, Some, None, fold, nat_lt, decimal, ◌&&◌}
use Rattle.std.specs.Char.{is_ascii_digit}
use Rattle.std.specs.List.{list_all, prefix_len}
use Rattle.std.proofs.lemmas.Bool.{lt-ltb, ltb-false}
use Rattle.std.proofs.lemmas.List.{drop_all, take_at, drop_at}
use Rattle.std.proofs.lemmas.Fmt.{digits_decimal, digits_value-decimal}
use Rattle.std.proofs.lemmas.Str.Parse.{IsNumeralModel, numerals_by_fold}
use Rattle.line_reader.specs.Fronts.{begins_with, EndsNumber, digit_step, whole_value, limited}

pub own : IsNumeralModel (λ ds. list_all is_ascii_digit ds ≡ true) whole_value
own = numerals_by_fold _ (search rules) (λ n ds. fold digit_step n ds) (search rules)

fold_grows : (n : ℕ) (digits : List ℕ) → n ≤ fold digit_step n digits
fold_grows n [] = omega arith
fold_grows n (digit ∷ digits) = omega (arith, fold_grows (10 * n + (digit - 48)) digits)

none_over : (k : ℕ) (b : Bool) → nat_lt k (2 ^ 32) ≡ b → None ≡ cond b (Some k) None → 2 ^ 32 ≤ k
none_over k true e h = absurd (cc)
none_over k false e h = ltb-false k (2 ^ 32) e

over_none : (k : ℕ) (b : Bool) → nat_lt k (2 ^ 32) ≡ b → 2 ^ 32 ≤ k → None ≡ cond b (Some k) None
over_none k true e h = absurd (omega (arith, true_below k e))
  where
    true_below : (k : ℕ) → nat_lt k (2 ^ 32) ≡ true → k < 2 ^ 32
    true_below k e = grind arith
over_none k false e h = refl

whole_over : (n digit : ℕ) (digits : List ℕ) (k : ℕ) → None ≡ limited (10 * n + (digit - 48)) → k ≡ fold digit_step n (digit ∷ digits) → None ≡ limited k
whole_over n digit digits k none is =
    over_none k (nat_lt k (2 ^ 32)) refl
    (omega (arith, none_over (10 * n + (digit - 48)) (nat_lt (10 * n + (digit - 48)) (2 ^ 32)) refl none, fold_grows (10 * n + (digit - 48)) digits, is))

pub whole_end : (number i : ℕ) (digits : List ℕ) → length digits ≤ i → number < 2 ^ 32 → fold digit_step number (drop i digits) ≡ whole_value digits → Some number ≡ limited (whole_value digits)
whole_end number i digits ended below is =
    let same : number ≡ whole_value digits = ap (fold digit_step number) (sym (drop_all i digits ended)) ∙ is in
    ap (λ b. cond b (Some number) None) (sym (lt-ltb number (2 ^ 32) below)) ∙ ap limited same

pub whole_stops : (number digit i : ℕ) (digits : List ℕ) (read : Option ℕ) → i < length digits → digit ≡ get_or digits i 0 → read ≡ None → None ≡ limited (10 * number + (digit - 48))
    → fold digit_step number (drop i digits) ≡ whole_value digits → read ≡ limited (whole_value digits)
whole_stops number digit i digits read below item nothing none is =
    let parts : drop i digits ≡ digit ∷ drop (suc i) digits = drop-cons digits i 0 below ∙ ap (λ d. d ∷ drop (suc i) digits) (sym item) in
    nothing ∙ whole_over number digit (drop (suc i) digits) (whole_value digits) none (sym is ∙ ap (fold digit_step number) parts)

pub first_passes : (x y : Bool) → (x && y) ≡ true → x ≡ true
first_passes true y e = refl
first_passes false y e = absurd (cc)

pub second_passes : (x y : Bool) → (x && y) ≡ true → y ≡ true
second_passes true y e = e
second_passes false y e = absurd (cc)

prefix_all : (test : ℕ → Bool) (ds rest : List ℕ) → list_all test ds ≡ true → begins_with test rest ≡ false → prefix_len test (ds ++ rest) ≡ length ds
prefix_all test [] [] all ends = refl
prefix_all test [] (b ∷ rest) all ends = ap (λ t. cond t (1 + prefix_len test rest) 0) ends
prefix_all test (d ∷ ds) rest all ends =
    let here = first_passes (test d) (list_all test ds) all in
    let others : prefix_len test (ds ++ rest) ≡ length ds = prefix_all test ds rest (second_passes (test d) (list_all test ds) all) ends in
    ap (λ t. cond t (1 + prefix_len test (ds ++ rest)) 0) here ∙ omega arith

-- the digits of a number in front, and the bytes behind them
pub digits_front : (k : ℕ) (rest bytes : List ℕ) → k < 2 ^ 32 → EndsNumber rest → bytes ≡ decimal k ++ rest
    → (take (prefix_len is_ascii_digit bytes) bytes ≡ decimal k) × (drop (prefix_len is_ascii_digit bytes) bytes ≡ rest)
digits_front k rest bytes small ends e =
    let size : length (decimal k) ≡ prefix_len is_ascii_digit bytes
    = sym (ap (prefix_len is_ascii_digit) e ∙ prefix_all is_ascii_digit (decimal k) rest (digits_decimal own k (omega arith)) ends) in (
      ap (take (prefix_len is_ascii_digit bytes)) e ∙ take_at (decimal k) rest (prefix_len is_ascii_digit bytes) size,
      ap (drop (prefix_len is_ascii_digit bytes)) e ∙ drop_at (decimal k) rest (prefix_len is_ascii_digit bytes) size,
    )

pub whole_decimal : (k : ℕ) → k < 2 ^ 32 → limited (whole_value (decimal k)) ≡ Some k
whole_decimal k small = ap limited (digits_value-decimal own k (omega arith)) ∙ ap (λ b. cond b (Some k) None) (lt-ltb k (2 ^ 32) small)

-- a number that was read at the front
pub whole_found : (k : ℕ) (rest bytes front back : List ℕ) (len : ℕ) (r : Option ℕ) → k < 2 ^ 32 → EndsNumber rest → bytes ≡ decimal k ++ rest
    → len ≡ prefix_len is_ascii_digit bytes → front ≡ take len bytes → back ≡ drop len bytes → r ≡ limited (whole_value front)
    → (r ≡ Some k) × (back ≡ rest)
whole_found k rest bytes front back len r small ends e len_is front_is back_is r_is =
    let cut = digits_front k rest bytes small ends e in
    let digits : front ≡ decimal k = front_is ∙ ap (λ i. take i bytes) len_is ∙ cut.0 in (
      r_is ∙ ap (λ (t : List ℕ). limited (whole_value t)) digits ∙ whole_decimal k small,
      back_is ∙ ap (λ i. drop i bytes) len_is ∙ cut.1,
    )

pub none_some : (k : ℕ) → None ≡ Some k → ⊥
none_some k e = cc
