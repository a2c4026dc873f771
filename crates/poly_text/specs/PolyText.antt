-- What a polynomial text stands for: the value of its tree, or its first fault. Faults of form come before
-- those of values.
--     NumbersValue              a finite map from names to numbers;  value_in numbers name    what it has at a name
--     is_number_name word       whether numbers may have this name
--     names_of n number word    what a name stands for, where the variables are z1 to zn
--     is_known n number word    it stands for something
--     IsTextAnswer n number bytes answer      a text with these bytes stands for this polynomial, as its canonical
--                                             list of terms, or has this fault
--     IsNumberAnswer bytes answer             the same of the number of a text without variables and names
--     OrNoMemory IsAnswer result              the result is an answer, unless memory ran out
--     UpToFault IsAnswer result               the same of a result that does not say which fault there is
use Rattle.std.specs.Prelude.{ℕ, ◌==◌, nat_le, Bool, false, ◌&&◌, not, if◌then◌else◌, Option, Some, None, is_some, option_map, Result, Ok, Err, List, [], ◌∷◌, length}
use Rattle.std.specs.List.{list_all}
use Rattle.std.specs.Ordering.{nat_cmp}
use Rattle.std.specs.Cmp.Lexicographic.{slice_cmp}
use Rattle.std.specs.Char.{is_ascii_digit}
use Rattle.std.specs.FinMap as map
use Rattle.ibp_algebra.specs.Polynomial.{Polynomial}
use Rattle.poly_text.specs.declared.fault.TextFault.{TextFault}
use Rattle.poly_text.specs.declared.fault.Unread.{Unread}
use Rattle.poly_text.specs.declared.limits.TheConstants.{NAME_LIMIT}
use Rattle.poly_text.specs.Token.{Token, is_initial, is_word, whole_value}
use Rattle.poly_text.specs.Tree.{Tree, IsText}
use Rattle.poly_text.specs.Spelling.{AreTokens}
use Rattle.poly_text.specs.Faults.{HasNoTokenFault, IsFirstFault}
use Rattle.poly_text.specs.Value.{constant, constant_term, variable, value}

abbrev pub NumbersValue : Type 0
NumbersValue = map.FinMap (slice_cmp nat_cmp) ℕ

abbrev pub value_in : NumbersValue → List ℕ → Option ℕ
value_in numbers name = map.get numbers name

-- z and digits alone
abbrev pub is_variable_name : List ℕ → Bool
is_variable_name [] = false
is_variable_name (b ∷ digits) = b == 122 && not (length digits == 0) && list_all is_ascii_digit digits

-- a letter or `_`, then letters, digits and `_`, within the limit
abbrev pub is_name : List ℕ → Bool
is_name [] = false
is_name (b ∷ bytes) = is_initial b && list_all is_word bytes && nat_le (length (b ∷ bytes)) NAME_LIMIT

-- a name that is not that of a variable
abbrev pub is_number_name : List ℕ → Bool
is_number_name word = is_name word && not (is_variable_name word)

-- the variable that a name of this form stands for
abbrev pub variable_named : ℕ → List ℕ → Option Polynomial
variable_named n [] = None
variable_named n (b ∷ []) = None
variable_named n (b ∷ digit ∷ digits) =
    if not (digit == 48) && nat_le (whole_value (digit ∷ digits)) n then Some (variable (whole_value (digit ∷ digits))) else None

abbrev pub names_of : ℕ → (List ℕ → Option ℕ) → List ℕ → Option Polynomial
names_of n number word =
    if is_variable_name word then variable_named n word
    else if nat_le (length word) NAME_LIMIT then option_map constant (number word) else None

abbrev pub is_known : ℕ → (List ℕ → Option ℕ) → List ℕ → Bool
is_known n number word = is_some (names_of n number word)

-- the first fault of form, or else the value of the tree or its first fault
pub data IsTextAnswer (n : ℕ) (number : List ℕ → Option ℕ) (bytes : List ℕ) : Result Polynomial TextFault → Type 0 where
  of_form : {ts : List (Token × ℕ)} {fault : TextFault} → AreTokens 0 bytes ts → IsFirstFault (is_known n number) (length bytes) ts fault
      → IsTextAnswer n number bytes (Err fault)
  of_tree : {ts : List (Token × ℕ)} {t : Tree} → AreTokens 0 bytes ts → IsText ts t → HasNoTokenFault (is_known n number) ts
      → IsTextAnswer n number bytes (value (names_of n number) t)

-- the number that a constant polynomial is, or the same fault
abbrev pub number_value : Result Polynomial TextFault → Result ℕ TextFault
number_value (Ok f) = Ok (constant_term f)
number_value (Err fault) = Err fault

-- a text without variables and names stands for a number
pub data IsNumberAnswer (bytes : List ℕ) : Result ℕ TextFault → Type 0 where
  of_text : {answer : Result Polynomial TextFault} → IsTextAnswer 0 (λ name. None) bytes answer → IsNumberAnswer bytes (number_value answer)

abbrev pub OrNoMemory : {X : Type 0} → (Result X TextFault → Type 0) → Result X TextFault → Type 0
OrNoMemory IsAnswer (Err TextFault.NoMemory) = Unit {0}
OrNoMemory IsAnswer result = IsAnswer result

-- the result is the value of an answer, or there is some fault that is one, unless memory ran out
abbrev pub UpToFault : {X : Type 0} → (Result X TextFault → Type 0) → Result X Unread → Type 0
UpToFault IsAnswer (Ok x) = IsAnswer (Ok x)
UpToFault IsAnswer (Err Unread.Fault) = (fault : TextFault) × IsAnswer (Err fault)
UpToFault IsAnswer (Err Unread.NoMemory) = Unit {0}
