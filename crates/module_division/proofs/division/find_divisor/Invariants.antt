use Rattle.std.proofs.Common.{◌≡◌, drop}
use Rattle.module_vec.specs.Division.{first_divisor}
use Rattle.module_division.proofs.division.find_divisor.Given as goal

abbrev pub invariant-loop-divisor : goal.invariant-loop-divisor
invariant-loop-divisor g l = first_divisor l.list l.term ≡ first_divisor (drop l.divisor-index l.list) l.term
