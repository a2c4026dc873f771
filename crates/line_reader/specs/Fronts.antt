-- What stands in front of bytes.
--     EndsNumber rest           no digit is next
--     whole_value digits        the number that a run of digits spells
--     limited k                 a number, unless it is 2 ^ 32 or more
--     IsSomeWith result P       there is a result, of which P holds
use Rattle.std.specs.Prelude.{◌≡◌, ℕ, ◌+◌, ◌-◌, ◌*◌, ◌^◌, nat_lt, Bool, false, if◌then◌else◌, Option, Some, None, List, [], ◌∷◌, fold}
use Rattle.std.specs.Char.{is_ascii_digit}

-- a byte that passes the test is next
abbrev pub begins_with : (ℕ → Bool) → List ℕ → Bool
begins_with test [] = false
begins_with test (b ∷ bytes) = test b

abbrev pub EndsNumber : List ℕ → Type 0
EndsNumber rest = begins_with is_ascii_digit rest ≡ false

abbrev pub digit_step : ℕ → ℕ → ℕ
digit_step n digit = 10 * n + (digit - 48)

abbrev pub whole_value : List ℕ → ℕ
whole_value digits = fold digit_step 0 digits

abbrev pub limited : ℕ → Option ℕ
limited k = if nat_lt k (2 ^ 32) then Some k else None

-- there is one, of which this holds
abbrev pub IsSomeWith : {X : Type 0} → Option X → (X → Type 0) → Type 0
IsSomeWith None P = ⊥
IsSomeWith (Some x) P = P x
