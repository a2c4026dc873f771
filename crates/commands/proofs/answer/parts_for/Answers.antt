use Rattle.std.proofs.Common.{◌∙◌}
use Rattle.commands.proofs.CheckParts.{whole_file, whole_written}
use Rattle.commands.proofs.answer.parts_for.Goals as goal

pub returns-in-Check-clause-file : goal.returns-in-Check-clause-file
returns-in-Check-clause-file c = c.parts_of.ensures.file ∙ whole_file c.args.command c.args.input.now c.requires c.in-Check.is

pub returns-in-Check-clause-written : goal.returns-in-Check-clause-written
returns-in-Check-clause-written c = c.parts_of.ensures.written ∙ whole_written c.args.command c.args.input.now c.requires c.in-Check.is
