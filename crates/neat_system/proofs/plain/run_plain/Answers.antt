use Rattle.std.proofs.Common.{subst}
use Rattle.family.specs.FamilyData.{FamilyData}
use Rattle.neat_system.specs.Answer.{IsAnswerFor}
use Rattle.neat_system.proofs.plain.run_plain.Goals as goal

pub returns : goal.returns
returns c = subst (λ (f : FamilyData). IsAnswerFor f c.close.result) c.in_ok-state.ensures.family c.close.ensures
