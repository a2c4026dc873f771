use Rattle.std.proofs.lemmas.List.Elements.{All-contains}
use Rattle.mono_order.specs.declared.limits.TheConstants.{VARIABLES}
use Rattle.module_vec.specs.ModuleVector.{IsMonicVector}
use Rattle.module_vec.proofs.DivisionLaws.{divide_ends}
use Rattle.module_division.proofs.laws.some_division.Goals as goal

pub returns : goal.returns
returns g c = λ list v limit monic vector. divide_ends g.met.O.TermOrder.laws list (λ h. All-contains (IsMonicVector g.O.TermOrder.order VARIABLES) list h monic) limit v vector.canonical vector.terms
