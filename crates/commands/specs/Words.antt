-- The commands, as what the words give to each argument.
--     command   number                 workers
--     identity  absent                 absent
--     basis     one to four digits     absent
--     plain     absent                 absent
--     check     absent                 absent
--     meet      one to four digits     absent
--     cut       one to four digits     absent
--     fold      absent                 absent
--     drill     one to four digits     absent
use Rattle.std.specs.Prelude.{◌&&◌, ℕ, nat_le, Bool, codes, length, List, Option, Some, None, option_map, option_and_then, if◌then◌else◌}
use Rattle.std.specs.Char.{is_ascii_digit}
use Rattle.std.specs.List.{list_all}
use Rattle.std.specs.Str.{bytes_eq}
use Rattle.std.specs.Str.Parse.{digits_value}
use Rattle.clap.specs.Walk.{Row, Text, first_of}
use Rattle.commands.specs.Program.{rows_found}
use Rattle.commands.specs.declared.words.Command.{Command}
use Rattle.commands.specs.declared.words.Command.TheVariants.{Identity, Basis, Plain, Check, Meet, Cut, Fold, Drill}

-- one to four digits
abbrev pub is_number : Text → Bool
is_number word = nat_le 1 (length word) && (nat_le (length word) 4 && list_all is_ascii_digit word)

unfoldable pub number_in : Text → Option ℕ
number_in word = if is_number word then Some (digits_value 10 word) else None

abbrev pub alone : Text → Option Command
alone word =
    if bytes_eq word (codes "identity") then Some Identity
    else if bytes_eq word (codes "plain") then Some Plain
    else if bytes_eq word (codes "check") then Some Check
    else if bytes_eq word (codes "fold") then Some Fold
    else None

abbrev pub with_number : Text → Text → Option Command
with_number word number =
    if bytes_eq word (codes "basis") then option_map Basis (number_in number)
    else if bytes_eq word (codes "meet") then option_map Meet (number_in number)
    else if bytes_eq word (codes "cut") then option_map Cut (number_in number)
    else if bytes_eq word (codes "drill") then option_map Drill (number_in number)
    else None

-- the command of what stands at each argument
abbrev pub command_of_parts : Option Text → Option Text → Option Text → Option Command
command_of_parts None number workers = None
command_of_parts (Some word) None None = alone word
command_of_parts (Some word) (Some number) None = with_number word number
command_of_parts (Some word) number (Some workers) = None

abbrev pub command_of_rows : List Row → Option Command
command_of_rows rows = command_of_parts (first_of (codes "command") rows) (first_of (codes "number") rows) (first_of (codes "workers") rows)

-- the command of the words, if they are one
abbrev pub command_of : List Text → Option Command
command_of words = option_and_then command_of_rows (rows_found words)
