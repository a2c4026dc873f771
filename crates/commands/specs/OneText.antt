-- A file determines the text that a command writes of it, and the number of a drill the text of the drill.
use Rattle.std.specs.Prelude.{◌≡◌, ℕ, List, Ok}
use Rattle.commands.specs.Causes.{Given, given_of, IsTextOf, IsWithinDrills}
use Rattle.commands.specs.declared.words.Command.{Command}

abbrev pub OneText : Type 0
OneText =
    (asked : Command) (input : List ℕ) (given : Given) (text other : List ℕ)
    → IsWithinDrills asked → given_of asked input ≡ Ok given
    → IsTextOf asked given text → IsTextOf asked given other
    → text ≡ other
