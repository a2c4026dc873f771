use Rattle.commands.proofs.Drills.{takes_none}
use Rattle.commands.proofs.input.input_of.Goals as goal

pub returns-in-Drill-clause-bytes : goal.returns-in-Drill-clause-bytes
returns-in-Drill-clause-bytes g c = takes_none c.args.command c.in-Drill.field-0 (g.S.Source.left c.args.source.now) c.new.result.items c.in-Drill.is
