-- The parts of an input that is no longer than what a command takes.
use Rattle.std.proofs.Common.{◌≡◌, ◌==◌, ◌&&◌, ◌≤◌, ℕ, Bool, true, false, List, [], ◌∷◌, length, take, refl, sym, ap, arith}
use Rattle.std.specs.Prelude.{if◌then◌else◌}
use Rattle.std.specs.List.{starts_with}
use Rattle.std.proofs.lemmas.List.{take_all}
use Rattle.commands.specs.Causes.{file_of, most_of, written_of}
use Rattle.commands.specs.CheckInput.{file_from, file_part, first_line, written_part}
use Rattle.commands.specs.declared.words.Command.{Command}
use Rattle.commands.specs.declared.words.Command.TheVariants.{Check}

take_step : (here : Bool) (byte : ℕ) (bytes rest : List ℕ) → take (length rest) bytes ≡ rest
    → take (length (if here then [] else byte ∷ rest)) (byte ∷ bytes) ≡ (if here then [] else byte ∷ rest)
take_step true byte bytes rest same = refl
take_step false byte bytes rest same = ap (λ more. byte ∷ more) same

take_from : (begins : Bool) (bytes : List ℕ) → take (length (file_from begins bytes)) bytes ≡ file_from begins bytes
take_from begins [] = refl
take_from begins (byte ∷ bytes) = take_step (begins && starts_with ◌==◌ (byte ∷ bytes) first_line) byte bytes (file_from (byte == 10) bytes) (take_from (byte == 10) bytes)

pub take_file : (input : List ℕ) → take (length (file_part input)) input ≡ file_part input
take_file input = take_from true input

short_step : (here : Bool) (byte : ℕ) (bytes rest : List ℕ) → length rest ≤ length bytes → length (if here then [] else byte ∷ rest) ≤ length (byte ∷ bytes)
short_step true byte bytes rest less = omega (arith)
short_step false byte bytes rest less = omega (arith, less)

short_from : (begins : Bool) (bytes : List ℕ) → length (file_from begins bytes) ≤ length bytes
short_from begins [] = omega (arith)
short_from begins (byte ∷ bytes) = short_step (begins && starts_with ◌==◌ (byte ∷ bytes) first_line) byte bytes (file_from (byte == 10) bytes) (short_from (byte == 10) bytes)

pub short_file : (input : List ℕ) → length (file_part input) ≤ length input
short_file input = short_from true input

pub whole_file : (asked : Command) (input : List ℕ) → length input ≤ most_of asked → asked ≡ Check → file_part input ≡ file_of asked input
whole_file Check input few is = ap file_part (sym (take_all (most_of Check) input few))
whole_file asked input few is = absurd (cc)

pub whole_written : (asked : Command) (input : List ℕ) → length input ≤ most_of asked → asked ≡ Check → written_part input ≡ written_of asked input
whole_written Check input few is = ap written_part (sym (take_all (most_of Check) input few))
whole_written asked input few is = absurd (cc)
