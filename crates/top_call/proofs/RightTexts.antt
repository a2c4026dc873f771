-- The text of an accepted file's system is right.
use Rattle.std.proofs.Common.{◌≡◌, ◌≤◌, ℕ, List, [], length, Ok}
use Rattle.family_file.specs.Family.{family_of}
use Rattle.family_file.specs.declared.need.Need.TheVariants as needs
use Rattle.family_file.proofs.FamilyLimits.{accepted_within, accepted_named}
use Rattle.system_check.specs.Rightness.{IsRight}
use Rattle.system_check.specs.declared.limits.TheConstants.{TEXT_LIMIT}
use Rattle.right_systems.proofs.SystemRight.{is_right}
use Rattle.right_systems.proofs.SystemValue.{is_value}
use Rattle.commands.specs.Causes.{Given, given_of, IsTextOf}
use Rattle.commands.specs.declared.words.Command.TheVariants as command
use Rattle.commands.proofs.Told.{unwritten}

pub right_text : (input text : List ℕ) (given : Given) → given_of command.Plain input ≡ Ok given → IsTextOf command.Plain given text → length text ≤ TEXT_LIMIT → IsRight given.family text
right_text input text given found is short =
    let file : family_of needs.Family input ≡ Ok given.family = unwritten [] (family_of needs.Family input) given found in
    let within = accepted_within needs.Family input given.family file in
    record {
      short = short;
      system = is.of.system;
      value = is_value given.family within is.of.system is.of.is_system (accepted_named needs.Family input given.family file);
      text = is.is;
      right = is_right given.family within is.of.system is.of.is_system;
    }
