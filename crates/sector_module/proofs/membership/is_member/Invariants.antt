use Rattle.std.proofs.Common.{take}
use Rattle.ibp_algebra.specs.Polynomial.{SamePolynomial}
use Rattle.ibp_algebra.proofs.ModuleLaws.{stripped_derivative}
use Rattle.family.specs.Conditions.{in_sector}
use Rattle.sector_module.proofs.membership.is_member.Given as goal

abbrev pub invariant-loop-i : goal.invariant-loop-i
invariant-loop-i l = SamePolynomial l.sum (stripped_derivative (in_sector l.sector.0) (take l.i l.c) l.family.baikov)
