use Rattle.mono_order.specs.declared.limits.TheConstants.{RUN_DEGREE}
use Rattle.module_basis.proofs.Forming.{IsFormed}
use Rattle.module_basis.proofs.pairs.formed_pairs.Given as goal

abbrev pub invariant-loop-place : goal.invariant-loop-place
invariant-loop-place g l = IsFormed RUN_DEGREE l.second l.new l.elements l.place l.pairs.items
