use Rattle.std.proofs.Common.{◌≡◌, take}
use Rattle.ibp_relation.specs.Templates.{field_terms_from}
use Rattle.ibp_relation.proofs.affine.affine_terms.Given as goal

abbrev pub invariant-loop-place : goal.invariant-loop-place
invariant-loop-place l = l.terms.items ≡ field_terms_from l.n 0 (take l.place l.a)
