use Rattle.std.proofs.Common.{◌≡◌, ap, arith, ◌∙◌, length, sum}
use Rattle.cut_family.specs.Places.{outside}
use Rattle.cut_family.proofs.PlaceLaws.{outside_shorter, outside_sum, from_empty}
use Rattle.cut_family.proofs.polynomials.cut_monomial.Goals as goal

pub monomial_of-requires-clause-few : goal.monomial_of-requires-clause-few
monomial_of-requires-clause-few c =
    let same : c.put_outside.new.into.items ≡ outside c.args.cut c.args.exponents.now = from_empty c.new-kept.result.items (outside c.args.cut c.args.exponents.now) c.put_outside.new.into.items c.new-kept.ensures.items c.in_ok-put_outside.ensures in
    omega (arith, ap length (c.deref.ensures.value ∙ same), outside_shorter c.args.cut c.args.exponents.now, c.requires.each_variable)

pub monomial_of-requires-clause-within : goal.monomial_of-requires-clause-within
monomial_of-requires-clause-within c =
    let same : c.put_outside.new.into.items ≡ outside c.args.cut c.args.exponents.now = from_empty c.new-kept.result.items (outside c.args.cut c.args.exponents.now) c.put_outside.new.into.items c.new-kept.ensures.items c.in_ok-put_outside.ensures in
    omega (arith, ap sum (c.deref.ensures.value ∙ same), outside_sum c.args.cut c.args.exponents.now, c.requires.bounded)
