use Rattle.std.proofs.Common.{◌≡◌, ap, arith, ◌∙◌, length, sum, List, ℕ, ◌++◌, ◌-◌, replicate}
use Rattle.mono_order.specs.declared.limits.TheConstants.{VARIABLES}
use Rattle.cut_family.specs.Places.{filled}
use Rattle.cut_family.proofs.PlaceLaws.{filled_length, filled_sum, no_room, from_empty}
use Rattle.cut_family.proofs.polynomials.lifted_monomial.Goals as goal

pub monomial_of-requires-clause-within : goal.monomial_of-requires-clause-within
monomial_of-requires-clause-within c =
    let same : c.put_filled.new.into.items ≡ filled 0 VARIABLES c.args.cut c.deref.result.now = from_empty c.new-all.result.items (filled 0 VARIABLES c.args.cut c.deref.result.now) c.put_filled.new.into.items c.new-all.ensures.items c.in_ok-put_filled.ensures in
    omega (arith, ap sum (c.deref-2.ensures.value ∙ same), filled_sum VARIABLES c.args.cut c.deref.result.now, ap sum c.deref.ensures.value, c.in_ok-exponents.ensures.kept.bounded)

pub monomial_of-requires-clause-few : goal.monomial_of-requires-clause-few
monomial_of-requires-clause-few c =
    let same : c.put_filled.new.into.items ≡ filled 0 VARIABLES c.args.cut c.deref.result.now = from_empty c.new-all.result.items (filled 0 VARIABLES c.args.cut c.deref.result.now) c.put_filled.new.into.items c.new-all.ensures.items c.in_ok-put_filled.ensures in
    omega (arith, ap length (c.deref-2.ensures.value ∙ same), filled_length 0 VARIABLES c.args.cut c.deref.result.now)

pub returns : goal.returns
returns c =
    let same : c.put_filled.new.into.items ≡ filled 0 VARIABLES c.args.cut c.deref.result.now = from_empty c.new-all.result.items (filled 0 VARIABLES c.args.cut c.deref.result.now) c.put_filled.new.into.items c.new-all.ensures.items c.in_ok-put_filled.ensures in
    c.monomial_of.ensures
    ∙ ap (λ (xs : List ℕ). xs ++ replicate (VARIABLES - length xs) 0) (c.deref-2.ensures.value ∙ same)
    ∙ no_room VARIABLES (filled 0 VARIABLES c.args.cut c.deref.result.now) (filled_length 0 VARIABLES c.args.cut c.deref.result.now)
    ∙ ap (λ (xs : List ℕ). filled 0 VARIABLES c.args.cut xs) (c.deref.ensures.value ∙ c.in_ok-exponents.ensures.value)
