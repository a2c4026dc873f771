use Rattle.mono_order.specs.declared.limits.TheConstants.{RUN_DEGREE}
use Rattle.mono_order.specs.TermOrder.{zero_dominates}
use Rattle.module_basis.proofs.RunEnds.{RunsTo-unique}
use Rattle.sector_module.specs.Factors.{sector_generators, sector_pair_order}
use Rattle.sector_module.proofs.laws.one_end.Goals as goal

pub returns : goal.returns
returns c = λ p n sector budget first second h k. RunsTo-unique zero_dominates (sector_pair_order p n sector budget) RUN_DEGREE (sector_generators p n sector) budget.pairs first second h k
