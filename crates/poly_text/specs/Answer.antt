-- The answer to a text as a function, for definitions that take it further. It is the one answer that the text has.
--     text_answer n number bytes     the polynomial of a text, or its fault
--     number_answer bytes            the number of a text without variables and names, or its fault
use Rattle.std.specs.Prelude.{ℕ, Option, None, Result, Ok, Err, List, length}
use Rattle.ibp_algebra.specs.Polynomial.{Polynomial}
use Rattle.poly_text.specs.declared.fault.TextFault.{TextFault}
use Rattle.poly_text.specs.Tree.{Tree}
use Rattle.poly_text.specs.Value.{value}
use Rattle.poly_text.specs.PolyText.{names_of, is_known, number_value}
use Rattle.poly_text.specs.Scanning.{tokens}
use Rattle.poly_text.specs.Grammar.{tree_of}

abbrev pub tree_value : (List ℕ → Option Polynomial) → Result Tree TextFault → Result Polynomial TextFault
tree_value names (Ok t) = value names t
tree_value names (Err fault) = Err fault

unfoldable pub text_answer : ℕ → (List ℕ → Option ℕ) → List ℕ → Result Polynomial TextFault
text_answer n number bytes =
    tree_value (names_of n number) (tree_of (is_known n number) (length bytes) (tokens bytes))

abbrev pub number_answer : List ℕ → Result ℕ TextFault
number_answer bytes = number_value (text_answer 0 (λ name. None) bytes)
