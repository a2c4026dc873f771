-- The reader's own: what the code reads in place of a token: a name stands for what it means, and a number that is too
-- large for its type for none.
use Rattle.std.specs.Prelude.{ℕ, ◌^◌, ◌==◌, nat_lt, nat_le, ◌&&◌, not, if◌then◌else◌, Option, Some, None, option_map, List, [], ◌∷◌, length}
use Rattle.ibp_algebra.specs.Polynomial.{Polynomial}
use Rattle.poly_text.specs.declared.limits.TheConstants.{NAME_LIMIT}
use Rattle.poly_text.specs.declared.symbol.Named.{Named}
use Rattle.poly_text.specs.declared.symbol.Symbol.{Symbol}
use Rattle.poly_text.specs.Token.{Token, whole_value}
use Rattle.poly_text.specs.Value.{constant, variable_exponents}
use Rattle.poly_text.specs.PolyText.{is_variable_name}

-- a number, unless it is too large for its type
abbrev pub limited : ℕ → Option ℕ
limited k = if nat_lt k (2 ^ 128) then Some k else None

abbrev pub named_variable : ℕ → List ℕ → Option Named
named_variable n [] = None
named_variable n (b ∷ []) = None
named_variable n (b ∷ digit ∷ digits) =
    if not (digit == 48) && nat_le (whole_value (digit ∷ digits)) n then Some (Named.Variable (variable_exponents (whole_value (digit ∷ digits)))) else None

abbrev pub named : ℕ → (List ℕ → Option ℕ) → List ℕ → Option Named
named n number word =
    if is_variable_name word then named_variable n word
    else if nat_le (length word) NAME_LIMIT then option_map (λ c. Named.Number c) (number word) else None

abbrev pub named_value : Named → Polynomial
named_value (Named.Number c) = constant c
named_value (Named.Variable m) = (m, 1) ∷ []

abbrev pub symbol_for : ℕ → (List ℕ → Option ℕ) → Token → Symbol
symbol_for n number (Token.whole k) = Symbol.Whole (limited k)
symbol_for n number (Token.name word) = Symbol.Name (named n number word)
symbol_for n number Token.plus = Symbol.Plus
symbol_for n number Token.minus = Symbol.Minus
symbol_for n number Token.times = Symbol.Times
symbol_for n number Token.over = Symbol.Over
symbol_for n number Token.power = Symbol.Power
symbol_for n number Token.opening = Symbol.Open
symbol_for n number Token.closing = Symbol.Close
symbol_for n number Token.stray = Symbol.Stray
