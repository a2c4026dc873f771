use Rattle.std.proofs.Common.{ap, refl, arith, ◌∙◌, ◌-◌, length, sum}
use Rattle.mono_order.specs.declared.limits.TheConstants.{VARIABLES}
use Rattle.family_file.proofs.Filling.{filled, padded_sum}
use Rattle.cut_family.proofs.polynomials.monomial_of.Goals as goal

pub returns : goal.returns
returns c = c.in-Some.ensures.value ∙ filled c.args.exponents.now c.copy_from_slice.new.self c.copy_from_slice.ensures.after

pub unreachable-requires : goal.unreachable-requires
unreachable-requires c =
    let same = filled c.args.exponents.now c.copy_from_slice.new.self c.copy_from_slice.ensures.after in
    let total = ap sum same ∙ padded_sum (VARIABLES - length c.args.exponents.now) c.args.exponents.now in
    let over = c.in-None.ensures.none.0 refl in
    omega (arith, over, total, c.requires.within)
