use Rattle.ibp_relation.proofs.TermsAtSeed.{SummedBefore}
use Rattle.ibp_relation.proofs.template.terms_at.Given as goal

abbrev pub invariant-loop-i : goal.invariant-loop-i
invariant-loop-i l = SummedBefore l.seed l.terms l.i l.found.items l.sum
