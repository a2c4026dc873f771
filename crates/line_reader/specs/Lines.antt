-- The lines of a text.
--     lines bytes               each line with its byte 10, which the last one may lack
--     IsWhole line              it has its byte 10, and another one
--     worded word body          the line of a word and a body
-- Source: formats of our own.
use Rattle.std.specs.Prelude.{◌≡◌, ℕ, Bool, ◌==◌, not, if◌then◌else◌, List, [], ◌∷◌, ◌++◌}

abbrev pub is_inside : ℕ → Bool
is_inside b = not (b == 10)

-- a line with its byte 10 and another byte
abbrev pub IsWhole : List ℕ → Type 0
IsWhole line = (b : ℕ) × (front : List ℕ) × (line ≡ b ∷ (front ++ 10 ∷ []))

-- a byte in front of the first line
abbrev pub onto_first : ℕ → List (List ℕ) → List (List ℕ)
onto_first b [] = (b ∷ []) ∷ []
onto_first b (l ∷ ls) = (b ∷ l) ∷ ls

unfoldable pub lines : List ℕ → List (List ℕ)
lines [] = []
lines (b ∷ bytes) = if b == 10 then ((b ∷ []) ∷ lines bytes) else onto_first b (lines bytes)

abbrev pub worded : List ℕ → List ℕ → List ℕ
worded word body = word ++ (body ++ 10 ∷ [])
