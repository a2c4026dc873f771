-- The two parts of the input of `check`: a family file, and a written text behind it.
--     first_line             the first line of a system's text
--     file_part input        all bytes before the first line of the input that is this one; a line begins at the start, and
--                            behind each byte 10
--     written_part input     the rest: it begins with that line, and is empty where no line is it
-- Source: formats of our own.
use Rattle.std.specs.Prelude.{ℕ, ◌==◌, ◌&&◌, Bool, true, List, [], ◌∷◌, length, drop, codes, if◌then◌else◌}
use Rattle.std.specs.List.{starts_with}

abbrev pub first_line : List ℕ
first_line = codes "neatibp-system 1\n"

-- the file part of what is left of an input, where it is told whether a line begins here
abbrev pub file_from : Bool → List ℕ → List ℕ
file_from begins [] = []
file_from begins (byte ∷ bytes) =
    if begins && starts_with ◌==◌ (byte ∷ bytes) first_line then [] else byte ∷ file_from (byte == 10) bytes

abbrev pub file_part : List ℕ → List ℕ
file_part input = file_from true input

abbrev pub written_part : List ℕ → List ℕ
written_part input = drop (length (file_part input)) input
