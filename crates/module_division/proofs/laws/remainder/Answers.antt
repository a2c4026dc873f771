use Rattle.std.proofs.lemmas.List.Elements.{All-contains}
use Rattle.mono_order.specs.declared.limits.TheConstants.{VARIABLES}
use Rattle.module_vec.specs.ModuleVector.{IsMonicVector}
use Rattle.module_division.proofs.Remainders.{IsRemainder-from_division}
use Rattle.module_division.proofs.laws.remainder.Goals as goal

pub returns : goal.returns
returns g c = λ list v r limit monic vector h. IsRemainder-from_division g.met.O.TermOrder.laws list (λ f. All-contains (IsMonicVector g.O.TermOrder.order VARIABLES) list f monic) v r limit vector h
