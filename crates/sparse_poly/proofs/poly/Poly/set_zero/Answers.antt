use Rattle.std.proofs.Common.{◌-◌, List, ℕ, Bool, get_or, refl, sym, subst, ◌∙◌, arith}
use Rattle.ibp_algebra.specs.FormalSum.{IsCanonical}
use Rattle.ibp_algebra.specs.Exponents.{deg_rev_lex}
use Rattle.std.specs.Prelude.{nat_lt}
use Rattle.sparse_poly.proofs.Loops.{kept_more, struck_more, kept_whole, IsCanonical-kept, lacks_variable, has_variable}
use Rattle.sparse_poly.proofs.poly.Poly.set_zero.Goals as goal
use Rattle.sparse_poly.proofs.poly.Poly.set_zero.Goals.{then-exponent-eq0+in_ok-push, else-exponent-eq0}

has : ℕ → List ℕ → Bool
has place m = nat_lt 0 (get_or m place 0)

pub loop-monomial-preserved : goal.loop-monomial-preserved
unfolding has
loop-monomial-preserved c =
    let terms = c.terms-monomial-items.result.now in
    let i = c.loop-monomial.monomial-index in
    let item = c.loop-monomial-item.result in
    elim c.if-exponent-eq0.branch [
      | then-exponent-eq0+in_ok-push w ↦
          kept_more (has (c.args.i - 1)) terms c.loop-monomial.terms.items c.if-exponent-eq0.terms.items i item c.loop-monomial-test.true c.loop-monomial-item.is
          (lacks_variable c.exponent.result (get_or item.0 (c.args.i - 1) 0) c.exponent.ensures.value (omega arith))
          ((λ j. (w.terms-is j).items) ∙ w.in_ok-push.ensures.items) c.loop-monomial.invariant
      | else-exponent-eq0 w ↦
          struck_more (has (c.args.i - 1)) terms c.loop-monomial.terms.items c.if-exponent-eq0.terms.items i item c.loop-monomial-test.true c.loop-monomial-item.is
          (has_variable c.exponent.result (get_or item.0 (c.args.i - 1) 0) c.exponent.ensures.value (omega arith))
          (λ j. (w.terms-is j).items) c.loop-monomial.invariant
    ]

pub invariant_of-result : goal.invariant_of-result
unfolding has
invariant_of-result c =
    IsCanonical-kept (has (c.args.i - 1)) c.terms-monomial-items.result.now c.loop-monomial.terms.items
    (kept_whole (has (c.args.i - 1)) c.terms-monomial-items.result.now c.terms-monomial-items.result.now c.loop-monomial.terms.items c.loop-monomial.monomial-index
    c.loop-monomial-test.false refl c.loop-monomial.invariant)
    (subst (IsCanonical deg_rev_lex) (sym c.terms-monomial-items.ensures.same) c.terms-monomial-items.ensures.canonical)

pub returns-clause-canonical : goal.returns-clause-canonical
unfolding has
returns-clause-canonical c =
    IsCanonical-kept (has (c.args.i - 1)) c.terms-monomial-items.result.now c.loop-monomial.terms.items
    (kept_whole (has (c.args.i - 1)) c.terms-monomial-items.result.now c.terms-monomial-items.result.now c.loop-monomial.terms.items c.loop-monomial.monomial-index
    c.loop-monomial-test.false refl c.loop-monomial.invariant)
    (subst (IsCanonical deg_rev_lex) (sym c.terms-monomial-items.ensures.same) c.terms-monomial-items.ensures.canonical)
