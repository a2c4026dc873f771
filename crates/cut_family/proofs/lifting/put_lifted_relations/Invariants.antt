use Rattle.std.proofs.Common.{◌≡◌, ◌++◌, map, take}
use Rattle.cut_family.specs.Lifting.{lifted_relation}
use Rattle.cut_family.proofs.lifting.put_lifted_relations.Given as goal

abbrev pub invariant-loop-relation : goal.invariant-loop-relation
invariant-loop-relation l = l.into.items ≡ l.fn.into.items ++ map (lifted_relation l.n l.cut) (take l.relation-index l.relations)
