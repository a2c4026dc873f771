use Rattle.std.proofs.Common.{◌≡◌, ◌+◌, ◌≤◌, sum, refl, ap, subst, ◌∙◌, arith}
use Rattle.std.proofs.lemmas.Bool.{OnTrue_at}
use Rattle.std.proofs.lemmas.List.{take_all}
use Rattle.ibp_algebra.specs.FormalSum.{AllKeys}
use Rattle.ibp_algebra.specs.Exponents.{add_exponents}
use Rattle.ibp_algebra.proofs.Combinations.{AllKeys-weaker}
use Rattle.ibp_algebra.proofs.SumOfExponents.{sum-add_exponents}
use Rattle.mono_order.specs.declared.limits.TheConstants.{RUN_DEGREE}
use Rattle.mono_order.specs.Term.{Term, multiply_term}
use Rattle.module_vec.specs.ModuleVector.{ModuleVector, multiply_vector}
use Rattle.module_vec.proofs.Degrees.{AllKeys-within}
use Rattle.fast_division.specs.Ranks.{HasPlace, IsOfFirst}
use Rattle.fast_division.proofs.Windows.{multiple_has, AllKeys-multiple_more, HasPlace-multiple, max_above, max_within}
use Rattle.fast_division.proofs.window.Places.degree_of.Goals as goal

pub has-requires : goal.has-requires
has-requires c =
    let item = c.loop-term-item.result in
    let product : sum (add_exponents c.args.by.now item.0.1) ≤ RUN_DEGREE =
    multiple_has (λ t. sum t.1 ≤ RUN_DEGREE) c.args.by.now c.args.terms.now c.loop-term.term-index item (multiply_term c.args.by.now item.0) c.loop-term-test.true c.loop-term-item.is refl
    (AllKeys-within RUN_DEGREE (multiply_vector c.args.by.now c.args.terms.now) c.requires)
    in
    omega (arith, product, sum-add_exponents c.args.by.now item.0.1)

pub loop-term-preserved : goal.loop-term-preserved
loop-term-preserved c =
    let item = c.loop-term-item.result in
    let by = c.args.by.now in
    let key : Term = multiply_term by item.0 in
    let product : sum key.1 ≤ RUN_DEGREE =
    multiple_has (λ t. sum t.1 ≤ RUN_DEGREE) by c.args.terms.now c.loop-term.term-index item key c.loop-term-test.true c.loop-term-item.is refl
    (AllKeys-within RUN_DEGREE (multiply_vector by c.args.terms.now) c.requires)
    in
    let sums = sum-add_exponents by item.0.1 in
    let at : c.degree.result ≡ sum item.0.1 = c.degree.ensures.sum ∙ ap (λ (t : Term). sum t.1) c.term.view_is in
    let above = max_above c.loop-term.degree c.degree.result in
    let first : IsOfFirst c.args.self.now.ranks.0 by = OnTrue_at c.if-not-is_of_first.false c.is_of_first.ensures.tested in
    let places = c.args.self.now in
    record {
      places = AllKeys-multiple_more (HasPlace places.ranks.0 places.first places.count) by c.args.terms.now c.loop-term.term-index item key
          c.loop-term-test.true c.loop-term-item.is refl c.loop-term.invariant.places
          (HasPlace-multiple places.ranks.0 places.first places.count by item.0 c.is_of_first.ensures.kept.each_variable first (OnTrue_at c.if-not-has.false c.has.ensures) product);
      degree = AllKeys-multiple_more (λ t. sum t.1 ≤ c.max-degree.result + sum by) by c.args.terms.now c.loop-term.term-index item key c.loop-term-test.true c.loop-term-item.is
          refl (AllKeys-weaker (λ t. sum t.1 ≤ c.loop-term.degree + sum by) (λ t. sum t.1 ≤ c.max-degree.result + sum by) (λ t small. omega (arith, small, above.0, c.max-degree.ensures)) _ c.loop-term.invariant.degree)
          (omega (arith, at, above.1, c.max-degree.ensures, sums));
      small = omega (arith, c.max-degree.ensures, max_within c.loop-term.degree c.degree.result RUN_DEGREE c.loop-term.invariant.small (omega (arith, at, product, sums)));
    }

pub returns-clause-degree : goal.returns-clause-degree
returns-clause-degree c =
    let all = take_all c.loop-term.term-index c.args.terms.now c.loop-term-test.false in
    AllKeys-weaker (λ t. sum t.1 ≤ c.loop-term.degree + sum c.args.by.now) (λ t. sum t.1 ≤ c.loop-term.degree + c.degree-2.result) (λ t small. omega (arith, small, c.degree-2.ensures.sum))
    (multiply_vector c.args.by.now c.args.terms.now)
    (subst (λ (v : ModuleVector). AllKeys (λ t. sum t.1 ≤ c.loop-term.degree + sum c.args.by.now) (multiply_vector c.args.by.now v)) all c.loop-term.invariant.degree)
