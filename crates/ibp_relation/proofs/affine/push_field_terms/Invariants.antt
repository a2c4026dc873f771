use Rattle.std.proofs.Common.{◌≡◌, ◌++◌, map, take}
use Rattle.ibp_relation.specs.Templates.{field_term}
use Rattle.ibp_relation.proofs.affine.push_field_terms.Given as goal

abbrev pub invariant-loop-monomial : goal.invariant-loop-monomial
invariant-loop-monomial l = l.terms.items ≡ l.initial.terms.items ++ map (field_term l.n l.place) (take l.monomial-index l.monomial-items)
