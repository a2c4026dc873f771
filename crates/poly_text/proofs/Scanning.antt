-- Digits, names and the tokens behind a token.
use Rattle.std.proofs.Common.{◌≡◌, ℕ, zero, suc, ◌+◌, ◌-◌, ◌*◌, ◌^◌, ◌<◌, ◌≤◌, List, [], ◌∷◌, length, drop, take, get_or, Bool, true, false, cond, refl, sym, ap, ◌∙◌, arith, drop-cons}
use Rattle.std.specs.Prelude.{Option, Some, None, fold, nat_lt, nat_le, ◌==◌, ◌&&◌, ◌||◌, not}
use Rattle.std.specs.Char.{is_ascii_digit}
use Rattle.std.specs.List.{list_all}
use Rattle.std.proofs.lemmas.Bool.{lt-ltb, ltb-false, lt-leb, le-leb}
use Rattle.std.proofs.lemmas.Bool.Decides.{Decides-eqb, leb_tells, not_from_Decides}
use Rattle.std.proofs.lemmas.List.{drop_all}
use Rattle.mono_order.specs.declared.limits.TheConstants.{VARIABLES}
use Rattle.ibp_base.proofs.Tests.{and_true}
use Rattle.poly_text.specs.declared.symbol.Named.{Named}
use Rattle.poly_text.specs.Value.{variable_exponents}
use Rattle.poly_text.specs.PolyText.{is_variable_name}
use Rattle.poly_text.specs.Token.{Token, is_blank, whole_value}
use Rattle.poly_text.specs.Scanning.{further_bytes, token_of, tokens_from}
use Rattle.poly_text.specs.Symbols.{limited, named_variable}

abbrev pub digit_step : ℕ → ℕ → ℕ
digit_step n digit = 10 * n + (digit - 48)

fold_grows : (n : ℕ) (digits : List ℕ) → n ≤ fold digit_step n digits
fold_grows n [] = omega arith
fold_grows n (digit ∷ digits) = omega (arith, fold_grows (10 * n + (digit - 48)) digits)

none_over : (k : ℕ) (b : Bool) → nat_lt k (2 ^ 128) ≡ b → None ≡ cond b (Some k) None → 2 ^ 128 ≤ k
none_over k true e h = absurd (cc)
none_over k false e h = ltb-false k (2 ^ 128) e

over_none : (k : ℕ) (b : Bool) → nat_lt k (2 ^ 128) ≡ b → 2 ^ 128 ≤ k → None ≡ cond b (Some k) None
over_none k true e h = absurd (omega (arith, true_below k e))
  where
    true_below : (k : ℕ) → nat_lt k (2 ^ 128) ≡ true → k < 2 ^ 128
    true_below k e = grind arith
over_none k false e h = refl

-- where a front of the digits is over, all of them are
pub whole_over : (n digit : ℕ) (digits : List ℕ) (k : ℕ) → None ≡ limited (10 * n + (digit - 48)) → k ≡ fold digit_step n (digit ∷ digits) → None ≡ limited k
whole_over n digit digits k none is =
    over_none k (nat_lt k (2 ^ 128)) refl
    (omega (arith, none_over (10 * n + (digit - 48)) (nat_lt (10 * n + (digit - 48)) (2 ^ 128)) refl none, fold_grows (10 * n + (digit - 48)) digits, is))

pub whole_end : (number i : ℕ) (digits : List ℕ) → length digits ≤ i → number < 2 ^ 128 → fold digit_step number (drop i digits) ≡ whole_value digits → Some number ≡ limited (whole_value digits)
whole_end number i digits ended below is =
    let same : number ≡ whole_value digits = ap (fold digit_step number) (sym (drop_all i digits ended)) ∙ is in
    ap (λ b. cond b (Some number) None) (sym (lt-ltb number (2 ^ 128) below)) ∙ ap limited same

pub whole_stops : (number digit i : ℕ) (digits : List ℕ) (read : Option ℕ) → i < length digits → digit ≡ get_or digits i 0 → read ≡ None → None ≡ limited (10 * number + (digit - 48))
    → fold digit_step number (drop i digits) ≡ whole_value digits → read ≡ limited (whole_value digits)
whole_stops number digit i digits read below item nothing none is =
    let parts : drop i digits ≡ digit ∷ drop (suc i) digits = drop-cons digits i 0 below ∙ ap (λ d. d ∷ drop (suc i) digits) (sym item) in
    nothing ∙ whole_over number digit (drop (suc i) digits) (whole_value digits) none (sym is ∙ ap (fold digit_step number) parts)

-- the names of variables
first_passes : (x y : Bool) → (x && y) ≡ true → x ≡ true
first_passes true y e = refl
first_passes false y e = absurd (cc)

second_passes : (x y : Bool) → (x && y) ≡ true → y ≡ true
second_passes true y e = e
second_passes false y e = absurd (cc)

digit_from : (d : ℕ) → is_ascii_digit d ≡ true → 48 ≤ d
digit_from d e = grind (arith, leb_tells)

chosen_none : (x y : Bool) (v : Named) → (x ≡ false → y ≡ false) → None ≡ cond (not x && y) (Some v) None
chosen_none true y v h = refl
chosen_none false true v h = absurd (let e = h refl in cc)
chosen_none false false v h = refl

pub variable_longer : (word : List ℕ) → is_variable_name word ≡ true → 1 < length word
variable_longer [] form = absurd (cc)
variable_longer (b ∷ []) form = absurd (let none = second_passes (b == 122) false (first_passes ((b == 122) && false) true form) in cc)
variable_longer (b ∷ d ∷ ds) form = omega arith

-- its number is not 0, unless it begins with the digit 0
first_digit : (b d : ℕ) (ds : List ℕ) → is_variable_name (b ∷ d ∷ ds) ≡ true → ¬ (d ≡ 48) → 0 < d - 48
first_digit b d ds form apart =
    let digits : list_all is_ascii_digit (d ∷ ds) ≡ true = second_passes ((b == 122) && not (length (d ∷ ds) == 0)) (list_all is_ascii_digit (d ∷ ds)) form in
    let first : 48 ≤ d = digit_from d (first_passes (is_ascii_digit d) (list_all is_ascii_digit ds) digits) in
    omega (arith, apart)

pub variable_positive : (word : List ℕ) → is_variable_name word ≡ true → ¬ (get_or word 1 0 ≡ 48) → 0 < whole_value (drop 1 word)
variable_positive [] form apart = absurd (cc)
variable_positive (b ∷ []) form apart = absurd (omega (arith, variable_longer (b ∷ []) form))
variable_positive (b ∷ d ∷ ds) form apart = omega (arith, first_digit b d ds form apart, fold_grows (10 * 0 + (d - 48)) ds)

pub variable_zero : (n : ℕ) (word : List ℕ) → get_or word 1 0 ≡ 48 → None ≡ named_variable n word
variable_zero n [] is = refl
variable_zero n (b ∷ []) is = refl
variable_zero n (b ∷ d ∷ ds) is =
    chosen_none (d == 48) (nat_le (whole_value (d ∷ ds)) n) (Named.Variable (variable_exponents (whole_value (d ∷ ds))))
    (λ apart. absurd (not_from_Decides _ (Decides-eqb d 48) apart is))

-- a name whose number is above n is no variable
pub variable_over : (n : ℕ) (word : List ℕ) → n < whole_value (drop 1 word) → None ≡ named_variable n word
variable_over n [] over = refl
variable_over n (b ∷ []) over = refl
variable_over n (b ∷ d ∷ ds) over =
    chosen_none (d == 48) (nat_le (whole_value (d ∷ ds)) n) (Named.Variable (variable_exponents (whole_value (d ∷ ds)))) (λ _. lt-leb (whole_value (d ∷ ds)) n over)

pub variable_wide : (n : ℕ) (word : List ℕ) (read : Option ℕ) → n ≤ VARIABLES → read ≡ None → read ≡ limited (whole_value (drop 1 word)) → None ≡ named_variable n word
variable_wide n word read few none is =
    let wide = none_over (whole_value (drop 1 word)) (nat_lt (whole_value (drop 1 word)) (2 ^ 128)) refl (sym none ∙ is) in
    variable_over n word (omega arith)

-- so is a name of more than three bytes
pub variable_long : (n : ℕ) (word : List ℕ) → n ≤ VARIABLES → is_variable_name word ≡ true → 3 < length word → None ≡ named_variable n word
variable_long n [] few form long = refl
variable_long n (b ∷ []) few form long = refl
variable_long n (b ∷ d ∷ []) few form long = absurd (omega (arith, long))
variable_long n (b ∷ d ∷ e ∷ []) few form long = absurd (omega (arith, long))
variable_long n (b ∷ d ∷ e ∷ g ∷ ds) few form long =
    chosen_none (d == 48) (nat_le (whole_value (d ∷ e ∷ g ∷ ds)) n) (Named.Variable (variable_exponents (whole_value (d ∷ e ∷ g ∷ ds)))) (λ apart.
    let positive = first_digit b d (e ∷ g ∷ ds) form (not_from_Decides _ (Decides-eqb d 48) apart) in
    lt-leb (whole_value (d ∷ e ∷ g ∷ ds)) n (omega (arith, fold_grows (10 * (10 * (10 * 0 + (d - 48)) + (e - 48)) + (g - 48)) ds)))

limited_value : (k i : ℕ) (b : Bool) → Some i ≡ cond b (Some k) None → i ≡ k
limited_value k i true e = cc
limited_value k i false e = absurd (cc)

pub limited_is : (k i : ℕ) → Some i ≡ limited k → i ≡ k
limited_is k i is = limited_value k i (nat_lt k (2 ^ 128)) is

pub variable_found : (n i : ℕ) (word m : List ℕ) (read : Option ℕ) → is_variable_name word ≡ true → ¬ (get_or word 1 0 ≡ 48) → read ≡ Some i → read ≡ limited (whole_value (drop 1 word)) → i ≤ n
    → m ≡ variable_exponents i → Some (Named.Variable m) ≡ named_variable n word
variable_found n i [] m read form apart some is within made = absurd (cc)
variable_found n i (b ∷ []) m read form apart some is within made = absurd (omega (arith, variable_longer (b ∷ []) form))
variable_found n i (b ∷ d ∷ ds) m read form apart some is within made =
    let value : i ≡ whole_value (d ∷ ds) = limited_is (whole_value (d ∷ ds)) i (sym some ∙ is) in
    let not_zero : (d == 48) ≡ false = false_from (d == 48) (λ e. apart ((Decides-eqb d 48).0 e)) in
    let test : nat_le (whole_value (d ∷ ds)) n ≡ true = le-leb (whole_value (d ∷ ds)) n (omega (arith, value)) in
    ap (λ (k : List ℕ). Some (Named.Variable k)) (made ∙ ap variable_exponents value)
    ∙ ap (λ c. cond c (Some (Named.Variable (variable_exponents (whole_value (d ∷ ds))))) None) (sym (and_true (not (d == 48)) (nat_le (whole_value (d ∷ ds)) n) (ap not not_zero) test))
  where
    false_from : (b : Bool) → ¬ (b ≡ true) → b ≡ false
    false_from true h = absurd (h refl)
    false_from false h = refl

-- the tokens behind the bytes that belong to a token
tokens_skip : (k place : ℕ) (bytes : List ℕ) → tokens_from k place bytes ≡ tokens_from 0 (place + k) (drop k bytes)
tokens_skip zero place bytes = let e : place ≡ place + 0 = omega arith in ap (λ p. tokens_from 0 p bytes) e
tokens_skip (suc k) place [] = refl
tokens_skip (suc k) place (b ∷ bytes) =
    let e : suc place + k ≡ place + suc k = omega arith in
    tokens_skip k (suc place) bytes ∙ ap (λ p. tokens_from 0 p (drop k bytes)) e

-- a blank has no further bytes
blank_is_one : (b : ℕ) (bytes : List ℕ) (x y z : Bool) → (b == 32) ≡ x → (b == 9) ≡ y → (b == 10) ≡ z → ((x || y) || z) ≡ true → further_bytes b bytes ≡ 0
blank_is_one b bytes true y z e f g h = ap (λ n. further_bytes n bytes) ((Decides-eqb b 32).0 e)
blank_is_one b bytes false true z e f g h = ap (λ n. further_bytes n bytes) ((Decides-eqb b 9).0 f)
blank_is_one b bytes false false true e f g h = ap (λ n. further_bytes n bytes) ((Decides-eqb b 10).0 g)
blank_is_one b bytes false false false e f g h = absurd (cc)

pub tokens_blank : (place b : ℕ) (bytes : List ℕ) → is_blank b ≡ true → tokens_from 0 place (b ∷ bytes) ≡ tokens_from 0 (suc place) bytes
tokens_blank place b bytes blank =
    let k = further_bytes b bytes in
    ap (λ c. cond c (tokens_from k (suc place) bytes) ((token_of b (b ∷ take k bytes), place) ∷ tokens_from k (suc place) bytes)) blank
    ∙ ap (λ m. tokens_from m (suc place) bytes) (blank_is_one b bytes (b == 32) (b == 9) (b == 10) refl refl refl blank)

pub tokens_token : (place b : ℕ) (bytes : List ℕ) → is_blank b ≡ false
    → tokens_from 0 place (b ∷ bytes) ≡ (token_of b (b ∷ take (further_bytes b bytes) bytes), place) ∷ tokens_from 0 (suc place + further_bytes b bytes) (drop (further_bytes b bytes) bytes)
tokens_token place b bytes no_blank =
    let k = further_bytes b bytes in
    ap (λ c. cond c (tokens_from k (suc place) bytes) ((token_of b (b ∷ take k bytes), place) ∷ tokens_from k (suc place) bytes)) no_blank
    ∙ ap (λ (ts : List (Token × ℕ)). (token_of b (b ∷ take k bytes), place) ∷ ts) (tokens_skip k (suc place) bytes)
