-- How bytes spell tokens, as a relation. `tokens` computes it.
--     IsToken word others token      this word is this token, where the others follow it
--     AreTokens at bytes ts          bytes that begin at this place are these tokens, with blanks between them
use Rattle.std.specs.Prelude.{◌≡◌, ℕ, suc, ◌+◌, Bool, true, false, List, [], ◌∷◌, ◌++◌, length}
use Rattle.std.specs.Char.{is_ascii_digit}
use Rattle.std.specs.List.{list_all}
use Rattle.poly_text.specs.Token.{Token, is_blank, is_initial, is_word, whole_value, symbol_of}

-- a byte that passes the test is next
abbrev pub begins_with : (ℕ → Bool) → List ℕ → Bool
begins_with test [] = false
begins_with test (b ∷ bytes) = test b

-- a number takes all digits and a name all its letters, digits and `_`; any other byte but a blank stands
-- alone, and is stray where it is no operator and no parenthesis
pub data IsToken : List ℕ → List ℕ → Token → Type 0 where
  whole : {b : ℕ} {more others : List ℕ} → is_ascii_digit b ≡ true → list_all is_ascii_digit more ≡ true → begins_with is_ascii_digit others ≡ false
      → IsToken (b ∷ more) others (Token.whole (whole_value (b ∷ more)))
  name : {b : ℕ} {more others : List ℕ} → is_initial b ≡ true → list_all is_word more ≡ true → begins_with is_word others ≡ false
      → IsToken (b ∷ more) others (Token.name (b ∷ more))
  symbol : {b : ℕ} {others : List ℕ} → is_ascii_digit b ≡ false → is_initial b ≡ false → is_blank b ≡ false → IsToken (b ∷ []) others (symbol_of b)

pub data AreTokens : ℕ → List ℕ → List (Token × ℕ) → Type 0 where
  nothing : {at : ℕ} → AreTokens at [] []
  blank : {at b : ℕ} {bytes : List ℕ} {ts : List (Token × ℕ)} → is_blank b ≡ true → AreTokens (suc at) bytes ts → AreTokens at (b ∷ bytes) ts
  token : {at : ℕ} {word others : List ℕ} {token : Token} {ts : List (Token × ℕ)} → IsToken word others token → AreTokens (at + length word) others ts
      → AreTokens at (word ++ others) ((token, at) ∷ ts)
