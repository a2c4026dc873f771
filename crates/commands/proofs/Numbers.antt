-- Words that are numbers.
use Rattle.std.proofs.Common.{◌≡◌, ℕ, refl, ap, ◌∙◌, sym, length, ◌<◌, arith, List, [], ◌∷◌, true, Some, None, cond}
use Rattle.std.specs.Prelude.{◌&&◌, Result, Ok}
use Rattle.std.specs.Char.{is_ascii_digit}
use Rattle.std.specs.List.{list_all}
use Rattle.std.specs.Str.{all_ascii_digits}
use Rattle.std.specs.Str.Parse.{digits_value, ParsesUnsigned}
use Rattle.std.specs.Result.{result_ok}
use Rattle.std.proofs.lemmas.Bool.{leb-true}
use Rattle.clap.proofs.WalkLemmas.{both}
use Rattle.std.proofs.lemmas.Str.Parse.{IsNumeralModel, numerals_by_value, tells_all_ascii_digits, parse_gives, digits_value_short}
use Rattle.commands.specs.Words.{is_number, number_in}

pub digits_tested : (ds : List ℕ) → list_all is_ascii_digit ds ≡ all_ascii_digits ds
digits_tested [] = refl
digits_tested (d ∷ ds) = ap (λ b. is_ascii_digit d && b) (digits_tested ds)

pub numerals : IsNumeralModel (λ ds. all_ascii_digits ds ≡ true) (digits_value 10)
numerals = numerals_by_value _ tells_all_ascii_digits

-- a number is read with its value
pub number_read : {E : Type 0} (word : List ℕ) (read : Result ℕ E) → is_number word ≡ true → ParsesUnsigned 16 10 word read → read ≡ Ok (digits_value 10 word)
number_read word read is parses =
    let front = both _ _ is in
    let back = both _ _ front.1 in
    let digits : all_ascii_digits word ≡ true = sym (digits_tested word) ∙ back.1 in
    let short : digits_value 10 word < 10000 = digits_value_short numerals word 4 digits (leb-true (length word) 4 back.0) in
    parse_gives numerals 16 word read parses digits (leb-true 1 (length word) front.0) (omega (arith, short))

pub number_given : {E : Type 0} (word : List ℕ) (read : Result ℕ E) → is_number word ≡ true → ParsesUnsigned 16 10 word read → result_ok read ≡ number_in word
unfolding number_in
number_given word read is parses = ap result_ok (number_read word read is parses) ∙ ap (λ b. cond b (Some (digits_value 10 word)) None) (sym is)
