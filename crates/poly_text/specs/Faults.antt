-- The faults of form of a text, told by the grammar alone.
--     IsFront ts                a text of the grammar begins with these tokens
--     IsAllowed front token     so it does with these tokens and this one behind them
--     EndsWithPower front       the last of these tokens is `^`
--     open_count front          how many parentheses are open behind these tokens
--     IsTokenFault known front token fault      behind these tokens, this token has this fault
--     HasNoTokenFault known ts  no token of these has a fault behind those before it
--     IsFirstFault known end ts fault           the first fault of a text with these tokens and this length
use Rattle.std.specs.Prelude.{◌≡◌, ℕ, ◌-◌, ◌^◌, ◌<◌, ◌≤◌, Bool, true, false, List, [], ◌∷◌, ◌++◌, ◌⊎◌, count_by}
use Rattle.poly_text.specs.declared.fault.TextFault.{TextFault}
use Rattle.poly_text.specs.declared.limits.TheConstants.{POWER_LIMIT, DEPTH_LIMIT}
use Rattle.poly_text.specs.Token.{Token}
use Rattle.poly_text.specs.Tree.{Tree, IsText}

abbrev pub IsFront : List (Token × ℕ) → Type 0
IsFront ts = (more : List (Token × ℕ)) × (t : Tree) × IsText (ts ++ more) t

abbrev pub IsAllowed : List (Token × ℕ) → Token × ℕ → Type 0
IsAllowed front token = IsFront (front ++ token ∷ [])

abbrev pub EndsWithPower : List (Token × ℕ) → Type 0
EndsWithPower front = (before : List (Token × ℕ)) × (p : ℕ) × (front ≡ before ++ (Token.power, p) ∷ [])

abbrev pub is_opening : Token × ℕ → Bool
is_opening (Token.opening, p) = true
is_opening token = false

abbrev pub is_closing : Token × ℕ → Bool
is_closing (Token.closing, p) = true
is_closing token = false

-- the opening ones less the closing ones
abbrev pub open_count : List (Token × ℕ) → ℕ
open_count front = count_by is_opening front - count_by is_closing front

-- a test says which names are known
pub data IsTokenFault (known : List ℕ → Bool) (front : List (Token × ℕ)) : Token × ℕ → TextFault → Type 0 where
  syntax : {token : Token} {at : ℕ} → ¬ IsAllowed front (token, at) → IsTokenFault known front (token, at) (TextFault.Syntax at)
  unknown_name : {word : List ℕ} {at : ℕ} → IsAllowed front (Token.name word, at) → known word ≡ false
      → IsTokenFault known front (Token.name word, at) (TextFault.UnknownName at)
  number_over : {k at : ℕ} → IsAllowed front (Token.whole k, at) → ¬ EndsWithPower front → 2 ^ 128 ≤ k
      → IsTokenFault known front (Token.whole k, at) (TextFault.NumberOver at)
  power_over : {k at : ℕ} → IsAllowed front (Token.whole k, at) → EndsWithPower front → POWER_LIMIT < k
      → IsTokenFault known front (Token.whole k, at) (TextFault.PowerOver at)
  depth_over : {at : ℕ} → IsAllowed front (Token.opening, at) → open_count front ≡ DEPTH_LIMIT
      → IsTokenFault known front (Token.opening, at) (TextFault.DepthOver at)

abbrev pub HasNoTokenFault : (List ℕ → Bool) → List (Token × ℕ) → Type 0
HasNoTokenFault known ts =
    (front : List (Token × ℕ)) (token : Token × ℕ) (back : List (Token × ℕ)) (fault : TextFault) → ts ≡ front ++ token ∷ back
    → ¬ IsTokenFault known front token fault

-- the fault of a token before which none has one, or that the text ends too early
abbrev pub IsFirstFault : (List ℕ → Bool) → ℕ → List (Token × ℕ) → TextFault → Type 0
IsFirstFault known end ts fault =
    ((front : List (Token × ℕ)) × (token : Token × ℕ) × (back : List (Token × ℕ)) × (ts ≡ front ++ token ∷ back)
    × HasNoTokenFault known front × IsTokenFault known front token fault)
    ⊎ ((fault ≡ TextFault.Syntax end) × HasNoTokenFault known ts × ((t : Tree) → ¬ IsText ts t))
