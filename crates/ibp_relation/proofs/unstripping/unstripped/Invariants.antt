use Rattle.std.proofs.Common.{◌≡◌, take}
use Rattle.ibp_algebra.specs.Field.{unstripped}
use Rattle.family.specs.Conditions.{in_sector}
use Rattle.ibp_relation.proofs.unstripping.unstripped.Given as goal

abbrev pub invariant-loop-place : goal.invariant-loop-place
invariant-loop-place l = l.a.items ≡ unstripped (in_sector l.sector.0) (take l.place l.c)
