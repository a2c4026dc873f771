-- The tokens of a polynomial text, each with its place: the number of bytes before it. A run of digits is
-- one token, and so is a letter or `_` with the letters, digits and `_` after it. Blanks stand between
-- tokens: the space, the tab and the line end.
--     whole_value digits        the number that a run of digits spells
use Rattle.std.specs.Prelude.{ℕ, ◌+◌, ◌-◌, ◌*◌, Bool, ◌||◌, ◌==◌, if◌then◌else◌, List, fold}
use Rattle.std.specs.Char.{is_ascii_alphabetic, is_ascii_alphanumeric}

pub data Token : Type 0 where
  whole : ℕ → Token
  name : List ℕ → Token
  plus : Token
  minus : Token
  times : Token
  over : Token
  power : Token
  opening : Token
  closing : Token
  -- a byte that begins no token
  stray : Token

abbrev pub is_blank : ℕ → Bool
is_blank b = b == 32 || b == 9 || b == 10

-- what a name may begin with, and what it may go on with
abbrev pub is_initial : ℕ → Bool
is_initial b = is_ascii_alphabetic b || b == 95

abbrev pub is_word : ℕ → Bool
is_word b = is_ascii_alphanumeric b || b == 95

abbrev pub whole_value : List ℕ → ℕ
whole_value digits = fold (λ n digit. 10 * n + (digit - 48)) 0 digits

abbrev pub symbol_of : ℕ → Token
symbol_of b =
    if b == 43 then Token.plus else if b == 45 then Token.minus else if b == 42 then Token.times
    else if b == 47 then Token.over else if b == 94 then Token.power else if b == 40 then Token.opening
    else if b == 41 then Token.closing else Token.stray
