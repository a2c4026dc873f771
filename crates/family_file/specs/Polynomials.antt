-- Numbers and polynomials of a file.
--     residue_in fault number                 a number modulo the prime
--     numbers_of table                        the numbers of a file, each with its name
--     polynomial_in fault n numbers key       a polynomial in z1 to zn
--     field_of fault n numbers ds             n of them
use Rattle.std.specs.Prelude.{ℕ, ◌-◌, ◌==◌, nat_lt, nat_le, not, ◌&&◌, Option, Some, None, List, [], ◌∷◌, ◌++◌, length, replicate, sum, Result, Ok, Err, if◌then◌else◌}
use Rattle.std.specs.FinMap as map
use Rattle.toml.specs.Data.{Data, Members}
use Rattle.ibp_field.specs.Arithmetic.{int_mod}
use Rattle.ibp_algebra.specs.Exponents.{deg_rev_lex}
use Rattle.ibp_algebra.specs.FormalSum.{normal_form}
use Rattle.ibp_algebra.specs.Polynomial.{Polynomial}
use Rattle.mono_order.specs.declared.limits.TheConstants.{VARIABLES}
use Rattle.poly_text.specs.declared.fault.TextFault.{TextFault}
use Rattle.poly_text.specs.PolyText.{NumbersValue, value_in, is_number_name}
use Rattle.poly_text.specs.Answer.{text_answer, number_answer}
use Rattle.sparse_poly.specs.declared.limits.TheConstants.{DEGREE_LIMIT, TERM_LIMIT}
use Rattle.family_file.specs.declared.limits.TheConstants.{NUMBER_LIMIT}
use Rattle.family_file.specs.declared.fault.FileFault.{FileFault}
use Rattle.family_file.specs.declared.fault.FileFault.TheVariants.{Number}
use Rattle.family_file.specs.Reading.{◌>>=◌, collect}
use Rattle.family_file.specs.Table.{entries_list, NumberData, whole_number, number_text, number_of, PolynomialData, polynomial_text, term_list, polynomial_of}
use Rattle.family_file.specs.Numbers.{natural}
use Rattle.family_file.specs.Arrays.{integer_in, list_in}

-- what a text stands for, in a place that has this fault
abbrev pub or_fault : {A : Type 0} → FileFault → Result A TextFault → Result A FileFault
or_fault fault (Ok x) = Ok x
or_fault fault (Err _) = Err fault

unfoldable pub text_in : FileFault → ℕ → NumbersValue → List ℕ → Result Polynomial FileFault
text_in fault n numbers text = or_fault fault (text_answer n (value_in numbers) text)

unfoldable pub number_text_in : FileFault → List ℕ → Result ℕ FileFault
number_text_in fault text = or_fault fault (number_answer text)

abbrev pub residue_in : FileFault → NumberData → Result ℕ FileFault
residue_in fault (whole_number z) = Ok (int_mod z)
residue_in fault (number_text text) = number_text_in fault text

-- a name with its number
unfoldable pub named_number : List ℕ × Data → Result (List ℕ × ℕ) FileFault
named_number entry = if not (is_number_name entry.0) then Err Number else do
  number ← number_of Number entry.1
  value ← residue_in Number number
  Ok (entry.0, value)

-- a map with these entries put in
abbrev pub with_entries : NumbersValue → List (List ℕ × ℕ) → NumbersValue
with_entries numbers [] = numbers
with_entries numbers (entry ∷ entries) = with_entries (map.insert numbers entry.0 entry.1) entries

-- the numbers of a table, which has no more entries than the limit
unfoldable pub numbers_in : Members → Result NumbersValue FileFault
numbers_in table = if nat_lt NUMBER_LIMIT (length (entries_list table)) then Err Number else do
  entries ← collect named_number (entries_list table)
  Ok (with_entries map.empty entries)

abbrev pub numbers_of : Option Members → Result NumbersValue FileFault
numbers_of None = Ok map.empty
numbers_of (Some table) = numbers_in table

-- an exponent of a term
unfoldable pub exponent_in : FileFault → Data → Result ℕ FileFault
exponent_in fault d = do
  z ← integer_in fault d
  natural fault 0 DEGREE_LIMIT z

-- a coefficient and the exponents of n variables
unfoldable pub term_from : FileFault → ℕ → List Data → Result (List ℕ × ℕ) FileFault
term_from fault n [] = Err fault
term_from fault n (first ∷ others) = do
  coefficient ← integer_in fault first
  exponents ← collect (exponent_in fault) others
  if length exponents == n && nat_le (sum exponents) DEGREE_LIMIT then Ok (exponents ++ replicate (VARIABLES - n) 0, int_mod coefficient) else Err fault

unfoldable pub term_in : FileFault → ℕ → Data → Result (List ℕ × ℕ) FileFault
term_in fault n d = do
  ds ← list_in fault d
  term_from fault n ds

-- the sum of the terms of a list
unfoldable pub terms_of : FileFault → ℕ → List Data → Result Polynomial FileFault
terms_of fault n ds = if nat_lt TERM_LIMIT (length ds) then Err fault else do
  terms ← collect (term_in fault n) ds
  Ok (normal_form deg_rev_lex terms)

abbrev pub polynomial_in : FileFault → ℕ → NumbersValue → PolynomialData → Result Polynomial FileFault
polynomial_in fault n numbers (term_list ds) = terms_of fault n ds
polynomial_in fault n numbers (polynomial_text text) = text_in fault n numbers text

unfoldable pub polynomial_value : FileFault → ℕ → NumbersValue → Data → Result Polynomial FileFault
polynomial_value fault n numbers d = do
  polynomial ← polynomial_of fault d
  polynomial_in fault n numbers polynomial

-- n polynomials of n variables
unfoldable pub field_of : FileFault → ℕ → NumbersValue → List Data → Result (List Polynomial) FileFault
field_of fault n numbers ds = if length ds == n then collect (polynomial_value fault n numbers) ds else Err fault
