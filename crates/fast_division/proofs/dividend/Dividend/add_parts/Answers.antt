use Rattle.std.proofs.Common.{◌≡◌, ◌++◌, true, false, sym, subst, ap, ◌∙◌}
use Rattle.std.proofs.lemmas.Bool.{OnTrue_at, OnFalse_at}
use Rattle.std.proofs.lemmas.Result.{on_ok_weaker}
use Rattle.ibp_algebra.specs.FormalSum.{AllKeys, normal_form, scale}
use Rattle.module_vec.specs.ModuleVector.{ModuleVector, multiply_vector}
use Rattle.fast_division.specs.Dividends.{IsSplit}
use Rattle.fast_division.specs.PartialSums.{IsBounded}
use Rattle.fast_division.proofs.Dividends.{IsVector-parts, within-parts, joined_bounded, part_added, added_to_parts, added_later}
use Rattle.fast_division.proofs.dividend.Dividend.add_parts.Goals as goal

pub add_multiple-requires-clause-vector : goal.add_multiple-requires-clause-vector
add_multiple-requires-clause-vector g c =
    (IsVector-parts g.O.TermOrder.order c.args.terms.now c.args.parts.0.now c.args.parts.1.now c.requires.whole c.requires.vector).0

pub add_multiple-requires-clause-within : goal.add_multiple-requires-clause-within
add_multiple-requires-clause-within g c =
    (within-parts c.args.by.now c.args.terms.now c.args.parts.0.now c.args.parts.1.now c.requires.whole c.requires.within).0

pub add_multiple-requires-2-clause-vector : goal.add_multiple-requires-2-clause-vector
add_multiple-requires-2-clause-vector g c =
    (IsVector-parts g.O.TermOrder.order c.args.terms.now c.args.parts.0.now c.args.parts.1.now c.requires.whole c.requires.vector).1

pub add_multiple-requires-2-clause-within : goal.add_multiple-requires-2-clause-within
add_multiple-requires-2-clause-within g c =
    (within-parts c.args.by.now c.args.terms.now c.args.parts.0.now c.args.parts.1.now c.requires.whole c.requires.within).1

pub pour-requires-clause-bounded : goal.pour-requires-clause-bounded
pour-requires-clause-bounded g c =
    let same : c.add_multiple.new.self ≡ c.self.inside.high = OnFalse_at c.if-not-branch.true c.in_ok-add_multiple.ensures.refused in
    subst (λ (a : ModuleVector). IsBounded g.O.TermOrder.order (a ++ c.self.inside.low)) (sym same)
    (joined_bounded g.O.TermOrder.order g.met.O.TermOrder.laws c.self.inside.high c.self.inside.low c.self.invariant.above_bounded c.self.invariant.below_bounded c.self.invariant.above_high c.self.invariant.below_low)

pub invariant_of-self-in_err-add_multiple-2 : goal.invariant_of-self-in_err-add_multiple-2
invariant_of-self-in_err-add_multiple-2 g c =
    let vectors = IsVector-parts g.O.TermOrder.order c.args.terms.now c.args.parts.0.now c.args.parts.1.now c.requires.whole c.requires.vector in
    let within = within-parts c.args.by.now c.args.terms.now c.args.parts.0.now c.args.parts.1.now c.requires.whole c.requires.within in
    let added : c.add_multiple.new.self ≡ normal_form g.O.TermOrder.order (c.self.inside.high ++ scale c.args.factor (multiply_vector c.args.by.now c.args.parts.0.now)) =
    OnTrue_at c.if-not-branch.false c.in_ok-add_multiple.ensures.sum
    in
    let above = part_added g.O.TermOrder.order g.met.O.TermOrder.laws true c.self.inside.high c.args.parts.0.now c.add_multiple.new.self c.args.by.now c.args.factor c.degree-degree.ensures.kept.each_variable
    vectors.0 within.0 c.requires.high c.self.invariant.above_bounded c.self.invariant.above_high added
    in
    let same : c.add_multiple-2.new.self ≡ c.self.inside.low = c.in_err-add_multiple-2.ensures.kept in
    record {
      above_bounded = above.0;
      below_bounded = subst (IsBounded g.O.TermOrder.order) (sym same) c.self.invariant.below_bounded;
      above_high = above.1;
      below_low = subst (AllKeys (λ t. g.O.TermOrder.high t.0 ≡ false)) (sym same) c.self.invariant.below_low;
      dense = c.self.invariant.dense;
      by_size = λ e. let clash : true ≡ false = sym c.if-not-self.false ∙ e in absurd (cc);
    }

pub pour-requires-then-not-branch-2-clause-bounded : goal.pour-requires-then-not-branch-2-clause-bounded
pour-requires-then-not-branch-2-clause-bounded g c =
    let vectors = IsVector-parts g.O.TermOrder.order c.args.terms.now c.args.parts.0.now c.args.parts.1.now c.requires.whole c.requires.vector in
    let within = within-parts c.args.by.now c.args.terms.now c.args.parts.0.now c.args.parts.1.now c.requires.whole c.requires.within in
    let added : c.add_multiple.new.self ≡ normal_form g.O.TermOrder.order (c.self.inside.high ++ scale c.args.factor (multiply_vector c.args.by.now c.args.parts.0.now)) =
    OnTrue_at c.if-not-branch.false c.in_ok-add_multiple.ensures.sum
    in
    let above = part_added g.O.TermOrder.order g.met.O.TermOrder.laws true c.self.inside.high c.args.parts.0.now c.add_multiple.new.self c.args.by.now c.args.factor c.degree-degree.ensures.kept.each_variable
    vectors.0 within.0 c.requires.high c.self.invariant.above_bounded c.self.invariant.above_high added
    in
    let same : c.add_multiple-2.new.self ≡ c.self.inside.low = OnFalse_at c.if-not-branch-2.true c.in_ok-add_multiple-2.ensures.refused in
    subst (λ (b : ModuleVector). IsBounded g.O.TermOrder.order (c.add_multiple.new.self ++ b)) (sym same)
    (joined_bounded g.O.TermOrder.order g.met.O.TermOrder.laws c.add_multiple.new.self c.self.inside.low above.0 c.self.invariant.below_bounded above.1 c.self.invariant.below_low)

pub add_terms-requires-then-not-branch-2-clause-vector : goal.add_terms-requires-then-not-branch-2-clause-vector
add_terms-requires-then-not-branch-2-clause-vector g c =
    (IsVector-parts g.O.TermOrder.order c.args.terms.now c.args.parts.0.now c.args.parts.1.now c.requires.whole c.requires.vector).1

pub add_terms-requires-then-not-branch-2-clause-within : goal.add_terms-requires-then-not-branch-2-clause-within
add_terms-requires-then-not-branch-2-clause-within g c =
    (within-parts c.args.by.now c.args.terms.now c.args.parts.0.now c.args.parts.1.now c.requires.whole c.requires.within).1

pub returns-then-not-branch-2 : goal.returns-then-not-branch-2
returns-then-not-branch-2 g c =
    let added : c.add_multiple.new.self ≡ normal_form g.O.TermOrder.order (c.self.inside.high ++ scale c.args.factor (multiply_vector c.args.by.now c.args.parts.0.now)) =
    OnTrue_at c.if-not-branch.false c.in_ok-add_multiple.ensures.sum
    in
    let before : IsSplit g.O.TermOrder.order g.O.TermOrder.high c.self.inside.high c.self.inside.low c.self.inside.buckets true =
    subst (IsSplit g.O.TermOrder.order g.O.TermOrder.high c.self.inside.high c.self.inside.low c.self.inside.buckets) c.if-not-self.false c.self.invariant
    in
    let same : c.add_multiple-2.new.self ≡ c.self.inside.low = OnFalse_at c.if-not-branch-2.true c.in_ok-add_multiple-2.ensures.refused in
    on_ok_weaker c.add_terms-then-not-branch-2.result
    (λ is.
    (λ i. (c.pour-then-not-branch-2.ensures.high i ++ c.pour-then-not-branch-2.ensures.low i) ++ is i)
    ∙ ap (λ (u : ModuleVector). normal_form g.O.TermOrder.order (u ++ scale c.args.factor (multiply_vector c.args.by.now c.args.parts.1.now))) (c.in_ok-pour-2.ensures.moved ∙ ap (λ (b : ModuleVector). c.add_multiple.new.self ++ b) same)
    ∙ added_later g.O.TermOrder.order g.met.O.TermOrder.laws c.self.inside.high c.self.inside.low c.self.inside.buckets c.args.terms.now c.args.parts.0.now c.args.parts.1.now c.add_multiple.new.self c.args.self.now
    c.args.by.now c.args.factor c.requires.whole before c.self.view_is added)
    c.add_terms-then-not-branch-2.ensures.sum

pub invariant_of-self-else-not-branch-2 : goal.invariant_of-self-else-not-branch-2
invariant_of-self-else-not-branch-2 g c =
    let vectors = IsVector-parts g.O.TermOrder.order c.args.terms.now c.args.parts.0.now c.args.parts.1.now c.requires.whole c.requires.vector in
    let within = within-parts c.args.by.now c.args.terms.now c.args.parts.0.now c.args.parts.1.now c.requires.whole c.requires.within in
    let added : c.add_multiple.new.self ≡ normal_form g.O.TermOrder.order (c.self.inside.high ++ scale c.args.factor (multiply_vector c.args.by.now c.args.parts.0.now)) =
    OnTrue_at c.if-not-branch.false c.in_ok-add_multiple.ensures.sum
    in
    let above = part_added g.O.TermOrder.order g.met.O.TermOrder.laws true c.self.inside.high c.args.parts.0.now c.add_multiple.new.self c.args.by.now c.args.factor c.degree-degree.ensures.kept.each_variable
    vectors.0 within.0 c.requires.high c.self.invariant.above_bounded c.self.invariant.above_high added
    in
    let added_low : c.add_multiple-2.new.self ≡ normal_form g.O.TermOrder.order (c.self.inside.low ++ scale c.args.factor (multiply_vector c.args.by.now c.args.parts.1.now)) =
    OnTrue_at c.if-not-branch-2.false c.in_ok-add_multiple-2.ensures.sum
    in
    let below = part_added g.O.TermOrder.order g.met.O.TermOrder.laws false c.self.inside.low c.args.parts.1.now c.add_multiple-2.new.self c.args.by.now c.args.factor c.degree-degree.ensures.kept.each_variable
    vectors.1 within.1 c.requires.low c.self.invariant.below_bounded c.self.invariant.below_low added_low
    in
    record {
      above_bounded = above.0;
      below_bounded = below.0;
      above_high = above.1;
      below_low = below.1;
      dense = c.self.invariant.dense;
      by_size = λ e. let clash : true ≡ false = sym c.if-not-self.false ∙ e in absurd (cc);
    }

pub returns : goal.returns
returns g c =
    let vectors = IsVector-parts g.O.TermOrder.order c.args.terms.now c.args.parts.0.now c.args.parts.1.now c.requires.whole c.requires.vector in
    let within = within-parts c.args.by.now c.args.terms.now c.args.parts.0.now c.args.parts.1.now c.requires.whole c.requires.within in
    let added : c.add_multiple.new.self ≡ normal_form g.O.TermOrder.order (c.self.inside.high ++ scale c.args.factor (multiply_vector c.args.by.now c.args.parts.0.now)) =
    OnTrue_at c.if-not-branch.false c.in_ok-add_multiple.ensures.sum
    in
    let above = part_added g.O.TermOrder.order g.met.O.TermOrder.laws true c.self.inside.high c.args.parts.0.now c.add_multiple.new.self c.args.by.now c.args.factor c.degree-degree.ensures.kept.each_variable
    vectors.0 within.0 c.requires.high c.self.invariant.above_bounded c.self.invariant.above_high added
    in
    let added_low : c.add_multiple-2.new.self ≡ normal_form g.O.TermOrder.order (c.self.inside.low ++ scale c.args.factor (multiply_vector c.args.by.now c.args.parts.1.now)) =
    OnTrue_at c.if-not-branch-2.false c.in_ok-add_multiple-2.ensures.sum
    in
    let below = part_added g.O.TermOrder.order g.met.O.TermOrder.laws false c.self.inside.low c.args.parts.1.now c.add_multiple-2.new.self c.args.by.now c.args.factor c.degree-degree.ensures.kept.each_variable
    vectors.1 within.1 c.requires.low c.self.invariant.below_bounded c.self.invariant.below_low added_low
    in
    let before : IsSplit g.O.TermOrder.order g.O.TermOrder.high c.self.inside.high c.self.inside.low c.self.inside.buckets true =
    subst (IsSplit g.O.TermOrder.order g.O.TermOrder.high c.self.inside.high c.self.inside.low c.self.inside.buckets) c.if-not-self.false c.self.invariant
    in
    let after : IsSplit g.O.TermOrder.order g.O.TermOrder.high c.add_multiple.new.self c.add_multiple-2.new.self c.self.inside.buckets true =
    record {
      above_bounded = above.0;
      below_bounded = below.0;
      above_high = above.1;
      below_low = below.1;
      dense = before.dense;
      by_size = λ e. absurd (cc);
    }
    in
    added_to_parts g.O.TermOrder.order g.met.O.TermOrder.laws c.self.inside.high c.self.inside.low c.self.inside.buckets c.args.terms.now c.args.parts.0.now c.args.parts.1.now c.add_multiple.new.self c.add_multiple-2.new.self
    c.args.self.now c.args.by.now c.args.factor c.requires.whole before after c.self.view_is added added_low
