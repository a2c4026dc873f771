use Rattle.std.proofs.Common.{◌≡◌, Option, Some, None, ok_or}
use Rattle.std.specs.Prelude.{IfOk}
use Rattle.std.specs.Result.{IsErrOf}
use Rattle.clap.specs.Matches.{found_of}
use Rattle.clap.specs.Walk.{rows_of}
use Rattle.commands.specs.declared.words.Command.{Command}
use Rattle.commands.specs.declared.words.WordsFault.TheVariants.{Usage}
use Rattle.commands.specs.Words.{command_of_rows}
use Rattle.commands.proofs.Rows.{command_given, parts_given}
use Rattle.commands.proofs.words.command_of.Goals as goal

given_command : (o found : Option Command) → found ≡ o → IfOk (ok_or o Usage) (λ c. found ≡ Some c)
given_command None found is = tt
given_command (Some c) found is = is

given_none : (o found : Option Command) → found ≡ o → IsErrOf (ok_or o Usage) Usage → found ≡ None
given_none None found is same = is
given_none (Some c) found is same = absurd (cc)

pub returns-clause-command : goal.returns-clause-command
returns-clause-command c =
    let f = found_of c.in_ok-matches.matches in
    let parts = parts_given f _ _ _ _ c.get_str.ensures c.get_str-2.ensures c.get_str-3.ensures c.command_of_parts.ensures in
    rw c.ok_or.ensures.value (given_command c.command_of_parts.result _ (command_given _ command_of_rows (rows_of f) _ c.in_ok-matches.ensures.rows parts))

pub returns-clause-usage : goal.returns-clause-usage
returns-clause-usage c same =
    let f = found_of c.in_ok-matches.matches in
    let parts = parts_given f _ _ _ _ c.get_str.ensures c.get_str-2.ensures c.get_str-3.ensures c.command_of_parts.ensures in
    given_none c.command_of_parts.result _ (command_given _ command_of_rows (rows_of f) _ c.in_ok-matches.ensures.rows parts) (rw c.ok_or.ensures.value at same)
