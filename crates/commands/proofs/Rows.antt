-- The parse of the program's command line.
use Rattle.std.proofs.Common.{◌≡◌, List, [], ◌∷◌, option_and_then, true, false, Option, Some, None, refl, sym, ap, ap₂, ◌∙◌, inl, inr, arith}
use Rattle.std.specs.Prelude.{codes}
use Rattle.std.proofs.lemmas.Bool.Decides.{nat_tests}
use Rattle.clap.specs.Walk.{Row, Text, is_empty, rows_of}
use Rattle.clap.specs.Simple.{is_simple, matches_of}
use Rattle.clap.specs.Matches.{first_value}
use Rattle.clap.specs.Kinds.{Kinds, HasKind}
use Rattle.clap.specs.Values.{kind_of}
use Rattle.clap.specs.Faults.{fault_of, is_simple_and_free}
use Rattle.clap.specs.declared.error.Error.{Error}
use Rattle.clap.specs.declared.error.kind.ErrorKind.TheVariants.{OutOfMemory}
use Rattle.clap.specs.declared.parser.matches.Found.{Found}
use Rattle.clap.proofs.OnLiterals.{clap_on_literals}
use Rattle.clap.proofs.WalkLemmas.{first_value-rows}
use Rattle.commands.specs.Program.{program, rows_found}
use Rattle.commands.specs.Words.{command_of_parts, command_of_rows}
use Rattle.commands.specs.declared.words.Command.{Command}

pub program_is_simple : is_simple program ≡ true
unfolding clap_on_literals
program_is_simple = refl

pub program_is_free : is_simple_and_free program ≡ true
unfolding clap_on_literals
program_is_free = refl

-- words without a fault have the matches
pub found : (words : List Text) (rows : List Row) → fault_of program words ≡ [] → rows ≡ matches_of program words → rows_found words ≡ Some rows
unfolding rows_found
found words rows none is = rw none (ap Some (sym is))

some_kind : (kinds : Kinds) (e : Error) → HasKind kinds e → (kind_of e ≡ OutOfMemory → ⊥) → is_empty kinds ≡ false
some_kind [] e (inl memory) other = absurd (other memory)
some_kind [] e (inr among) other = absurd among
some_kind (k ∷ kinds) e has other = grind (arith, nat_tests)

-- an error that is not of memory comes only where the words have a fault
pub not_found : (words : List Text) (e : Error) → HasKind (fault_of program words) e → (kind_of e ≡ OutOfMemory → ⊥) → rows_found words ≡ None
unfolding rows_found
not_found words e has other = rw (some_kind (fault_of program words) e has other) refl

-- what was read of each argument of the matches
pub command_given : {A : Type 0} (found : Option (List Row)) (read : List Row → Option A) (rows : List Row) (given : Option A) → found ≡ Some rows → given ≡ read rows → option_and_then read found ≡ given
command_given found read rows given is same = rw is (sym same)

-- the command of what the getters read is that of the rows
pub parts_given : (f : Found) (command number workers : Option Text) (given : Option Command)
    → command ≡ first_value f (codes "command") → number ≡ first_value f (codes "number") → workers ≡ first_value f (codes "workers")
    → given ≡ command_of_parts command number workers → given ≡ command_of_rows (rows_of f)
parts_given f command number workers given c n w is =
    is ∙ ap₂ (λ a b. a b) (ap₂ command_of_parts (c ∙ first_value-rows f _) (n ∙ first_value-rows f _)) (w ∙ first_value-rows f _)
