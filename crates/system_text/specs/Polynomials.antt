-- What ends the parts of a polynomial's text.
use Rattle.std.specs.Prelude.{◌≡◌, ◌≢◌, ℕ, ◌<◌, ◌≤◌, ◌^◌, Bool, false, ◌==◌, ◌||◌, List, [], ◌++◌, if◌then◌else◌, codes, decimal, sum}
use Rattle.std.specs.Char.{is_ascii_digit}
use Rattle.ibp_field.specs.declared.TheConstants.{PRIME}
use Rattle.mono_order.specs.declared.limits.TheConstants.{RUN_DEGREE}
use Rattle.family.specs.Shapes.{HasVariables}
use Rattle.line_reader.specs.Fronts.{begins_with, EndsNumber}

abbrev pub is_power_byte : ℕ → Bool
is_power_byte b = is_ascii_digit b || b == 94

abbrev pub is_term_byte : ℕ → Bool
is_term_byte b = is_power_byte b || b == 42

abbrev pub EndsTerm : List ℕ → Type 0
EndsTerm rest = begins_with is_term_byte rest ≡ false

pub record EndsPoly (rest : List ℕ) : Type 0 where
  pub term : EndsTerm rest
  pub no_more : (r : List ℕ) → rest ≢ codes " + " ++ r

-- another variable, with a greater number
pub record IsLaterPower (i : ℕ) (rest : List ℕ) : Type 0 where
  pub j : ℕ
  pub others : List ℕ
  pub later : i < j
  pub small : j < 2 ^ 32
  pub ends : EndsNumber others
  pub is : rest ≡ decimal j ++ others

-- no power of z_i goes on with these bytes, nor do they begin with one
pub record EndsPower (i : ℕ) (rest : List ℕ) : Type 0 where
  pub power : begins_with is_power_byte rest ≡ false
  pub others : (r : List ℕ) → rest ≡ codes "*z" ++ r → IsLaterPower i r

pub record IsShort (n : ℕ) (m : List ℕ) : Type 0 where
  pub variables : HasVariables n m
  pub degree : sum m ≤ RUN_DEGREE

pub record IsPolyTerm (n : ℕ) (term : List ℕ × ℕ) : Type 0 where
  pub monomial : IsShort n term.0
  pub residue : term.1 < PRIME

-- what stands behind a variable
abbrev pub exponent_text : ℕ → List ℕ
exponent_text e = if e == 1 then [] else codes "^" ++ decimal e
