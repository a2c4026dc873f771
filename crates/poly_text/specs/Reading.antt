-- The reader's own: reading a text with values in place of trees.
use Rattle.std.specs.Prelude.{ℕ, ◌-◌, ◌^◌, ◌==◌, nat_lt, if◌then◌else◌, Option, Some, None, Result, Ok, Err, List, [], ◌∷◌, length, map, min, reverse}
use Rattle.ibp_algebra.specs.Polynomial.{Polynomial}
use Rattle.poly_text.specs.declared.fault.TextFault.{TextFault}
use Rattle.poly_text.specs.declared.limits.TheConstants.{POWER_LIMIT, DEPTH_LIMIT}
use Rattle.poly_text.specs.declared.symbol.Symbol.{Symbol}
use Rattle.poly_text.specs.declared.reader.Operator.{Operator}
use Rattle.poly_text.specs.declared.reader.SumSoFar.{SumSoFar}
use Rattle.poly_text.specs.declared.reader.ProductSoFar.{ProductSoFar}
use Rattle.poly_text.specs.declared.reader.OpenSum.{OpenSum}
use Rattle.poly_text.specs.declared.reader.Expected.{Expected}
use Rattle.poly_text.specs.declared.reader.Reader.{Reader}
use Rattle.poly_text.specs.Value.{constant, then_value, both_values, sum_of, difference_of, product_of, quotient_of, negative_of, power_of}
use Rattle.poly_text.specs.Token.{Token}
use Rattle.poly_text.specs.Scanning.{tokens}
use Rattle.poly_text.specs.Symbols.{named_value, symbol_for}

abbrev pub Operand : Type 0
Operand = Result Polynomial TextFault

-- what is being read, the sum that is open within the others first
pub record Reading : Type 0 where
  pub expected : Expected
  pub level : OpenSum
  pub outer : List OpenSum

abbrev pub reads : Expected → OpenSum → List OpenSum → Reading
reads expected level outer = record { expected = expected; level = level; outer = outer }

abbrev pub empty_sum : OpenSum
empty_sum = record { sum = SumSoFar.Empty; product = ProductSoFar.Empty }

abbrev pub operation : Operator → ℕ → Polynomial → Polynomial → Operand
operation Operator.Times at f g = product_of at f g
operation Operator.Over at f g = quotient_of at f g

abbrev pub combined : Operator → ℕ → Operand → Operand → Operand
combined operator at left right = both_values (operation operator at) left right

abbrev pub product_value : ProductSoFar → Operand → Operand
product_value ProductSoFar.Empty v = v
product_value (ProductSoFar.Times u at) v = combined Operator.Times at u v
product_value (ProductSoFar.Over u at) v = combined Operator.Over at u v

abbrev pub sum_value : SumSoFar → Operand → Operand
sum_value SumSoFar.Empty v = v
sum_value SumSoFar.Negative v = then_value v (λ f. Ok (negative_of f))
sum_value (SumSoFar.Plus u at) v = both_values (sum_of at) u v
sum_value (SumSoFar.Minus u at) v = both_values (difference_of at) u v

abbrev pub level_value : OpenSum → Operand → Operand
level_value level v = sum_value level.sum (product_value level.product v)

-- what stands for itself in a sum: a number or a name
abbrev pub primary_value : Symbol → ℕ → Operand
primary_value (Symbol.Whole (Some k)) at = Ok (constant k)
primary_value (Symbol.Whole None) at = Err (TextFault.NumberOver at)
primary_value (Symbol.Name (Some meaning)) at = Ok (named_value meaning)
primary_value (Symbol.Name None) at = Err (TextFault.UnknownName at)
primary_value symbol at = Err (TextFault.Syntax at)

abbrev pub read_primary_value : Operand → OpenSum → List OpenSum → Result Reading TextFault
read_primary_value (Ok f) level outer = Ok (reads (Expected.Primary (Ok f)) level outer)
read_primary_value (Err fault) level outer = Err fault

abbrev pub read_open : OpenSum → List OpenSum → ℕ → Result Reading TextFault
read_open level outer at = if length outer == DEPTH_LIMIT then Err (TextFault.DepthOver at) else Ok (reads Expected.Start empty_sum (level ∷ outer))

abbrev pub read_operand : OpenSum → List OpenSum → Symbol → ℕ → Result Reading TextFault
read_operand level outer Symbol.Open at = read_open level outer at
read_operand level outer symbol at = read_primary_value (primary_value symbol at) level outer

abbrev pub read_start : OpenSum → List OpenSum → Symbol → ℕ → Result Reading TextFault
read_start level outer Symbol.Plus at = Ok (reads Expected.Operand level outer)
read_start level outer Symbol.Minus at = Ok (reads Expected.Operand (record level { sum = SumSoFar.Negative }) outer)
read_start level outer symbol at = read_operand level outer symbol at

abbrev pub read_closed : Operand → List OpenSum → ℕ → Result Reading TextFault
read_closed v [] at = Err (TextFault.Syntax at)
read_closed v (level ∷ outer) at = Ok (reads (Expected.Primary v) level outer)

abbrev pub read_factor : Operand → OpenSum → List OpenSum → Symbol → ℕ → Result Reading TextFault
read_factor v level outer Symbol.Times at = Ok (reads Expected.Operand (record level { product = ProductSoFar.Times (product_value level.product v) at }) outer)
read_factor v level outer Symbol.Over at = Ok (reads Expected.Operand (record level { product = ProductSoFar.Over (product_value level.product v) at }) outer)
read_factor v level outer Symbol.Plus at = Ok (reads Expected.Operand (record { sum = SumSoFar.Plus (level_value level v) at; product = ProductSoFar.Empty }) outer)
read_factor v level outer Symbol.Minus at = Ok (reads Expected.Operand (record { sum = SumSoFar.Minus (level_value level v) at; product = ProductSoFar.Empty }) outer)
read_factor v level outer Symbol.Close at = read_closed (level_value level v) outer at
read_factor v level outer symbol at = Err (TextFault.Syntax at)

abbrev pub read_primary : Operand → OpenSum → List OpenSum → Symbol → ℕ → Result Reading TextFault
read_primary v level outer Symbol.Power at = Ok (reads (Expected.Exponent v at) level outer)
read_primary v level outer symbol at = read_factor v level outer symbol at

abbrev pub raised : Operand → ℕ → ℕ → Operand
raised v at k = then_value v (λ f. power_of at f k)

abbrev pub read_exponent : Operand → ℕ → OpenSum → List OpenSum → Symbol → ℕ → Result Reading TextFault
read_exponent v place level outer (Symbol.Whole (Some k)) at = if nat_lt POWER_LIMIT k then Err (TextFault.PowerOver at) else Ok (reads (Expected.Factor (raised v place k)) level outer)
read_exponent v place level outer (Symbol.Whole None) at = Err (TextFault.PowerOver at)
read_exponent v place level outer symbol at = Err (TextFault.Syntax at)

abbrev pub read_at : Expected → OpenSum → List OpenSum → Symbol → ℕ → Result Reading TextFault
read_at Expected.Start level outer symbol at = read_start level outer symbol at
read_at Expected.Operand level outer symbol at = read_operand level outer symbol at
read_at (Expected.Primary v) level outer symbol at = read_primary v level outer symbol at
read_at (Expected.Factor v) level outer symbol at = read_factor v level outer symbol at
read_at (Expected.Exponent v place) level outer symbol at = read_exponent v place level outer symbol at

abbrev pub read_next : Reading → Symbol → ℕ → Result Reading TextFault
read_next reading symbol at = read_at reading.expected reading.level reading.outer symbol at

abbrev pub read_end_at : Expected → OpenSum → List OpenSum → ℕ → Operand
read_end_at (Expected.Primary v) level [] at = level_value level v
read_end_at (Expected.Factor v) level [] at = level_value level v
read_end_at expected level outer at = Err (TextFault.Syntax at)

abbrev pub read_end : Reading → ℕ → Operand
read_end reading at = read_end_at reading.expected reading.level reading.outer at

abbrev pub then_reading : {A : Type 0} → Result Reading TextFault → (Reading → Result A TextFault) → Result A TextFault
then_reading (Ok reading) go = go reading
then_reading (Err fault) go = Err fault

-- after these tokens
abbrev pub read_tokens : ℕ → (List ℕ → Option ℕ) → Reading → List (Token × ℕ) → Result Reading TextFault
read_tokens n number reading [] = Ok reading
read_tokens n number reading (token ∷ ts) =
    then_reading (read_next reading (symbol_for n number token.0) token.1) (λ after. read_tokens n number after ts)

abbrev pub first_reading : Reading
first_reading = reads Expected.Start empty_sum []

-- a place as a fault has it, where the greatest one stands for those beyond it
abbrev pub place_in : ℕ → ℕ
place_in p = min p (2 ^ 32 - 1)

abbrev pub placed : Token × ℕ → Token × ℕ
placed token = (token.0, place_in token.1)

-- the answer to a text, with such places
abbrev pub read_text : ℕ → (List ℕ → Option ℕ) → List ℕ → Operand
read_text n number bytes =
    then_reading (read_tokens n number first_reading (map placed (tokens bytes))) (λ reading. read_end reading (place_in (length bytes)))

-- what the code's reader stands for
abbrev pub reading_of : Reader → Reading
reading_of reader = reads reader.expected reader.level (reverse reader.outer.items)
