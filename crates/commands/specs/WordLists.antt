-- Which lists of words are commands.
--     identity    Identity
--     plain       Plain
--     check       Check
--     basis N     Basis of N's value, where N is one to four digits
--     meet N      Meet of N's value, likewise
--     cut N       Cut of N's value, likewise
--     fold        Fold
--     drill N     Drill of N's value, likewise
-- The first `--` of a list ends the options, and counts for nothing else.
use Rattle.std.specs.Prelude.{List, [], ◌∷◌, codes, Option, None, if◌then◌else◌}
use Rattle.std.specs.Str.{bytes_eq}
use Rattle.clap.specs.Walk.{Text}
use Rattle.commands.specs.Words.{alone, with_number}
use Rattle.commands.specs.declared.words.Command.{Command}

-- the words but the first `--`
abbrev pub without_mark : List Text → List Text
without_mark [] = []
without_mark (word ∷ words) = if bytes_eq word (codes "--") then words else word ∷ without_mark words

-- the command of a list, if the table has it
abbrev pub listed : List Text → Option Command
listed [] = None
listed (word ∷ []) = alone word
listed (word ∷ number ∷ []) = with_number word number
listed (word ∷ number ∷ more ∷ words) = None
