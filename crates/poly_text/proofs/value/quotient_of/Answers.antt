use Rattle.std.proofs.Common.{ap, ◌∙◌, ◌≤◌, arith}
use Rattle.std.specs.Prelude.{slice_get}
use Rattle.ibp_algebra.specs.Polynomial.{degree_of}
use Rattle.poly_text.proofs.Values.{quotient_is}
use Rattle.poly_text.proofs.value.quotient_of.Goals as goal

pub returns-in_ok-scaled-in-Some-inverse : goal.returns-in_ok-scaled-in-Some-inverse
returns-in_ok-scaled-in-Some-inverse c =
    let small : degree_of c.args.g.now ≤ 0 = omega arith in
    quotient_is c.args.at c.args.f.now c.args.g.now c.in_ok-scaled-in-Some-inverse.field-0 c.in-Some.term.now c.in-Some-inverse.inverse
    (c.in-Some.ensures.value ∙ ap (λ l. slice_get l 0) c.terms.ensures.same) c.terms.ensures.canonical small c.in-Some-inverse.ensures.inverse c.in_ok-scaled-in-Some-inverse.ensures
