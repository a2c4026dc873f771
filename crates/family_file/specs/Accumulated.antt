-- What is gathered from what is read, where something was gathered before.
use Rattle.std.specs.Prelude.{ℕ, List, Result, Ok}
use Rattle.poly_text.specs.PolyText.{NumbersValue}
use Rattle.family_file.specs.declared.fault.FileFault.{FileFault}
use Rattle.family_file.specs.Reading.{◌>>=◌}
use Rattle.family_file.specs.Polynomials.{with_entries}

abbrev pub into : {B S : Type 0} → (S → List B → S) → S → Result (List B) FileFault → Result S FileFault
into put start read = read >>= λ xs. Ok (put start xs)

abbrev pub numbers_after : NumbersValue → Result (List (List ℕ × ℕ)) FileFault → Result NumbersValue FileFault
numbers_after = into with_entries
