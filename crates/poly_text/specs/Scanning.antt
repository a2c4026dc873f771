-- The reader's own: the tokens of a text, found byte by byte.
--     tokens bytes              the tokens of a text
use Rattle.std.specs.Prelude.{ℕ, zero, suc, if◌then◌else◌, List, [], ◌∷◌, take}
use Rattle.std.specs.Char.{is_ascii_digit}
use Rattle.std.specs.List.{prefix_len}
use Rattle.poly_text.specs.Token.{Token, is_blank, is_initial, is_word, whole_value, symbol_of}

-- how many bytes of these belong to the token that begins with the byte before them
abbrev pub further_bytes : ℕ → List ℕ → ℕ
further_bytes b bytes =
    if is_ascii_digit b then prefix_len is_ascii_digit bytes else if is_initial b then prefix_len is_word bytes else 0

-- the token that begins with this byte and has these bytes
abbrev pub token_of : ℕ → List ℕ → Token
token_of b word = if is_ascii_digit b then Token.whole (whole_value word) else if is_initial b then Token.name word else symbol_of b

-- the tokens of what is left of a text, of which the first bytes belong to a token before
abbrev pub tokens_from : ℕ → ℕ → List ℕ → List (Token × ℕ)
tokens_from skipped place [] = []
tokens_from (suc skipped) place (b ∷ bytes) = tokens_from skipped (suc place) bytes
tokens_from zero place (b ∷ bytes) =
    let others = tokens_from (further_bytes b bytes) (suc place) bytes in
    if is_blank b then others else ((token_of b (b ∷ take (further_bytes b bytes) bytes), place) ∷ others)

abbrev pub tokens : List ℕ → List (Token × ℕ)
tokens bytes = tokens_from 0 0 bytes
