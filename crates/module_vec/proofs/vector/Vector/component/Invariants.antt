use Rattle.std.proofs.Common.{◌≡◌, take}
use Rattle.module_vec.specs.ModuleVector.{component_of}
use Rattle.module_vec.proofs.vector.Vector.component.Given as goal

abbrev pub invariant-loop-term : goal.invariant-loop-term
invariant-loop-term g l = l.terms.items ≡ component_of l.component (take l.term-index l.term-items)
