use Rattle.std.proofs.Common.{◌∙◌, ap, sym}
use Rattle.commands.specs.Words.{is_number}
use Rattle.commands.proofs.Numbers.{number_given}
use Rattle.commands.proofs.words.number_in.Goals as goal

pub returns-then-is_number : goal.returns-then-is_number
returns-then-is_number c =
    c.ok.ensures.value ∙ number_given c.args.word.now c.parse.result (ap is_number (sym c.as_bytes.ensures.value) ∙ sym c.is_number.ensures ∙ c.if-is_number.true) c.parse.ensures.value.0
