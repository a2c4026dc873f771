use Rattle.family.specs.FamilyView.{family_view}
use Rattle.neat_system.proofs.Answering.{answer_for}
use Rattle.neat_system.proofs.closing.close_wide.Goals as goal

pub returns : goal.returns
returns g c = answer_for (family_view c.args.state.now.plan) c.args.state.now.plan.limits c.answer.result c.answer.ensures
