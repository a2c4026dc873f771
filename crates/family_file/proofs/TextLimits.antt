-- What polynomial texts and term lists stand for is within the limits.
use Rattle.std.proofs.Common.{◌≡◌, ℕ, ◌+◌, ◌-◌, ◌*◌, ◌<◌, ◌≤◌, Bool, true, false, cond, not, ◌&&◌, List, [], ◌∷◌, length, sum, replicate, Ok, Option, Some, None, refl, ◌∙◌, subst, arith}
use Rattle.std.specs.Prelude.{nat_le, ◌==◌, slice_set, option_map, fold}
use Rattle.std.specs.List.{list_all}
use Rattle.std.specs.Char.{is_ascii_digit}
use Rattle.std.proofs.lemmas.Bool.Decides.{nat_tests}
use Rattle.std.proofs.lemmas.List.{length-set, get_or-set_other}
use Rattle.ibp_algebra.specs.Polynomial.{Polynomial}
use Rattle.ibp_algebra.proofs.SumOfExponents.{sum-set}
use Rattle.mono_order.specs.declared.limits.TheConstants.{VARIABLES}
use Rattle.poly_text.specs.Token.{whole_value}
use Rattle.poly_text.specs.PolyText.{is_variable_name, variable_named, names_of}
use Rattle.poly_text.specs.Answer.{text_answer}
use Rattle.poly_text.proofs.Answering.{answer_value}
use Rattle.poly_text.specs.Value.{constant, variable}
use Rattle.sparse_poly.specs.declared.limits.TheConstants.{DEGREE_LIMIT}
use Rattle.family.specs.Shapes.{HasVariables}
use Rattle.ibp_base.proofs.Tests.{both_true, not_false}
use Rattle.family_file.proofs.PolynomialLimits.{IsRead, no_exponents, read_constant, NamesAre, value_read}

pub variable_exponents : (n k : ℕ) → k < n → n ≤ VARIABLES → HasVariables n (slice_set (replicate VARIABLES 0) k 1)
variable_exponents n k below few = record {
  each_variable = length-set (replicate VARIABLES 0) k 1;
  none_beyond = λ i le. get_or-set_other (replicate VARIABLES 0) k i 1 0 (λ same. omega (arith, below, le, same)) ∙ (no_exponents n).none_beyond i le;
}

variable_degree : (k : ℕ) → k < VARIABLES → sum (slice_set (replicate VARIABLES 0) k 1) ≤ DEGREE_LIMIT
variable_degree k below =
    let none : sum (replicate VARIABLES 0) ≡ 0 = refl in
    omega (arith, sum-set (replicate VARIABLES 0) k 1 below, none)

variable_read : (n i : ℕ) → 1 ≤ i → i ≤ n → n ≤ VARIABLES → IsRead n (variable i)
variable_read n i some few most = record {
  polynomial = record {
    canonical = (omega arith, omega arith, tt, tt);
    variables = (variable_exponents n (i - 1) (omega (arith, some, few)) most, tt);
    degree_within = (variable_degree (i - 1) (omega (arith, some, few, most)), tt);
  };
  few = omega arith;
}

rises : (digits : List ℕ) (n : ℕ) → n ≤ fold (λ n digit. 10 * n + (digit - 48)) n digits
rises [] n = omega arith
rises (digit ∷ digits) n = omega (arith, rises digits (10 * n + (digit - 48)))

counts_from_one : (digit : ℕ) (digits : List ℕ) → is_ascii_digit digit ≡ true → (digit == 48) ≡ false → 1 ≤ whole_value (digit ∷ digits)
counts_from_one digit digits h k =
    let above : 49 ≤ digit = grind (arith, nat_tests, h, k) in
    omega (arith, above, rises digits (10 * 0 + (digit - 48)))

some_is : {A : Type 0} (test : Bool) (x y : A) → cond test (Some x) None ≡ Some y → (test ≡ true) × (x ≡ y)
some_is true x y h = (refl, cc)
some_is false x y h = absurd (cc)

variable_named_read : (n : ℕ) → n ≤ VARIABLES → (word : List ℕ) (p : Polynomial) → is_variable_name word ≡ true → variable_named n word ≡ Some p → IsRead n p
variable_named_read n most [] p h e = absurd (cc)
variable_named_read n most (b ∷ []) p h e = absurd (cc)
variable_named_read n most (b ∷ digit ∷ digits) p h e =
    let found = some_is (not (digit == 48) && nat_le (whole_value (digit ∷ digits)) n) (variable (whole_value (digit ∷ digits))) p e in
    let sides = both_true (not (digit == 48)) (nat_le (whole_value (digit ∷ digits)) n) found.0 in
    let form = both_true (b == 122 && not (length (digit ∷ digits) == 0)) (list_all is_ascii_digit (digit ∷ digits)) h in
    let first = both_true (is_ascii_digit digit) (list_all is_ascii_digit digits) form.1 in
    let some = counts_from_one digit digits first.0 (not_false (digit == 48) sides.0) in
    let few : whole_value (digit ∷ digits) ≤ n = grind (arith, nat_tests, sides.1) in
    subst (IsRead n) found.1 (variable_read n (whole_value (digit ∷ digits)) some few most)

constant_read : (n : ℕ) (o : Option ℕ) (p : Polynomial) → option_map constant o ≡ Some p → IsRead n p
constant_read n (Some c) p e = subst (IsRead n) (let same : constant c ≡ p = cc in same) (read_constant n c)
constant_read n None p e = absurd (cc)

number_named_read : (n : ℕ) (test : Bool) (o : Option ℕ) (p : Polynomial) → cond test (option_map constant o) None ≡ Some p → IsRead n p
number_named_read n true o p e = constant_read n o p e
number_named_read n false o p e = absurd (cc)

named_read : (n : ℕ) → n ≤ VARIABLES → (number : List ℕ → Option ℕ) (word : List ℕ) (p : Polynomial) (b : Bool) → is_variable_name word ≡ b
    → cond b (variable_named n word) (cond (nat_le (length word) 32) (option_map constant (number word)) None) ≡ Some p → IsRead n p
named_read n most number word p true h e = variable_named_read n most word p h e
named_read n most number word p false h e = number_named_read n (nat_le (length word) 32) (number word) p e

names_are : (n : ℕ) → n ≤ VARIABLES → (number : List ℕ → Option ℕ) → NamesAre n (names_of n number)
names_are n most number word p e = named_read n most number word p (is_variable_name word) refl e

pub text_read : (n : ℕ) → n ≤ VARIABLES → (number : List ℕ → Option ℕ) (bytes : List ℕ) (p : Polynomial) → text_answer n number bytes ≡ Ok p → IsRead n p
text_read n most number bytes p e =
    let found = answer_value n number bytes p e in
    value_read n (names_of n number) (names_are n most number) found.0 p found.1
