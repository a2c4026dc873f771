use Rattle.std.proofs.Common.{◌≡◌, ◌+◌, true, false, drop, ap, sym, subst, ◌∙◌}
use Rattle.ibp_algebra.specs.FormalSum.{AllKeys}
use Rattle.mono_order.specs.Term.{Term}
use Rattle.module_vec.proofs.Degrees.{AllKeys-more}
use Rattle.fast_division.proofs.Dividends.{low_from}
use Rattle.fast_division.proofs.dividend.high_count.Goals as goal

pub returns-then-not-is_high-clause-low : goal.returns-then-not-is_high-clause-low
returns-then-not-is_high-clause-low g c =
    let low : g.O.TermOrder.high c.loop-term-item.result.0.0 ≡ false =
    ap (λ (t : Term). g.O.TermOrder.high t.0) (sym c.term.view_is) ∙ sym c.is_high.ensures ∙ c.if-not-is_high.true
    in
    subst (λ k. AllKeys (λ t. g.O.TermOrder.high t.0 ≡ false) (drop k c.args.terms.now)) (sym c.loop-term.invariant.count)
    (low_from g.O.TermOrder.order g.met.O.TermOrder.laws c.args.terms.now c.loop-term.term-index c.loop-term-item.result c.requires.canonical c.loop-term-test.true c.loop-term-item.is low)

pub loop-term-preserved : goal.loop-term-preserved
loop-term-preserved g c =
    let high : g.O.TermOrder.high c.loop-term-item.result.0.0 ≡ true =
    ap (λ (t : Term). g.O.TermOrder.high t.0) (sym c.term.view_is) ∙ sym c.is_high.ensures ∙ c.if-not-is_high.false
    in
    record {
      count = ap (λ k. k + 1) c.loop-term.invariant.count;
      high = AllKeys-more (λ t. g.O.TermOrder.high t.0 ≡ true) c.args.terms.now c.loop-term.term-index c.loop-term-item.result c.loop-term-test.true c.loop-term-item.is high c.loop-term.invariant.high;
    }
