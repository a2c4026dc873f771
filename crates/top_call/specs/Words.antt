-- The words of `system`, as what the words give to each argument, and what any words ask for.
--     command   number   workers
--     system    absent   one or two digits, with a value from 1 to WORKERS
-- Our own, over the parse of clap.
use Rattle.std.specs.Prelude.{◌&&◌, ℕ, nat_le, codes, length, List, Option, Some, None, option_and_then, if◌then◌else◌}
use Rattle.std.specs.Str.{bytes_eq}
use Rattle.clap.specs.Walk.{Row, Text, first_of}
use Rattle.relay_desk.specs.declared.limits.TheConstants.{WORKERS}
use Rattle.commands.specs.Program.{rows_found}
use Rattle.commands.specs.Words.{number_in, command_of}
use Rattle.commands.specs.declared.words.Command.{Command}
use Rattle.commands.specs.declared.words.Command.TheVariants.{Plain}

-- as many workers as a desk may have
abbrev pub in_range : ℕ → Option ℕ
in_range workers = if nat_le 1 workers && nat_le workers WORKERS then Some workers else None

abbrev pub workers_in : Text → Option ℕ
workers_in word = if nat_le (length word) 2 then option_and_then in_range (number_in word) else None

-- the workers of what stands at each argument
abbrev pub workers_of_parts : Option Text → Option Text → Option Text → Option ℕ
workers_of_parts (Some word) None (Some workers) = if bytes_eq word (codes "system") then workers_in workers else None
workers_of_parts (Some word) None None = None
workers_of_parts (Some word) (Some number) workers = None
workers_of_parts None number workers = None

abbrev pub workers_of_rows : List Row → Option ℕ
workers_of_rows rows = workers_of_parts (first_of (codes "command") rows) (first_of (codes "number") rows) (first_of (codes "workers") rows)

-- how many workers the words ask for, if they are those of `system`
abbrev pub workers_of : List Text → Option ℕ
workers_of words = option_and_then workers_of_rows (rows_found words)

-- With workers the words ask for what `plain` does, and otherwise for what their command does.
abbrev pub asked_with : Option ℕ → List Text → Option Command
asked_with (Some workers) words = Some Plain
asked_with None words = command_of words

-- what the words ask for, if it is anything
abbrev pub asked_of : List Text → Option Command
asked_of words = asked_with (workers_of words) words
