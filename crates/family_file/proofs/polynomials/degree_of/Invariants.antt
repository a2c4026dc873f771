use Rattle.std.proofs.Common.{◌≡◌, ◌-◌, ◌^◌, min, take, sum}
use Rattle.family_file.proofs.polynomials.degree_of.Given as goal

abbrev pub invariant-loop-exponent : goal.invariant-loop-exponent
invariant-loop-exponent l = l.degree ≡ min (sum (take l.exponent-index l.exponents)) (2 ^ 16 - 1)
