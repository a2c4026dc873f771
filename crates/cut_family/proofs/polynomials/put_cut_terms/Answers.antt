use Rattle.std.proofs.Common.{◌≡◌, ap, sym, ◌∙◌}
use Rattle.cut_family.specs.Cutting.{meets_cut, cut_exponents}
use Rattle.cut_family.proofs.MoreTerms.{term_kept, term_struck}
use Rattle.cut_family.proofs.polynomials.put_cut_terms.Goals as goal
use Rattle.cut_family.proofs.polynomials.put_cut_terms.Goals.{then-not-meets_cut+in_ok-cut_monomial+in_ok-push, else-not-meets_cut}

pub loop-monomial-preserved : goal.loop-monomial-preserved
loop-monomial-preserved c =
    let cut = c.args.cut in
    let term = c.loop-monomial-item.result in
    let read : c.deref.result.now ≡ term.0 = c.deref.ensures.value ∙ c.in_ok-exponents.ensures.value in
    let tested : c.meets_cut.result ≡ meets_cut cut term.0 = c.meets_cut.ensures ∙ ap (λ m. meets_cut cut m) read in
    elim c.if-not-meets_cut.branch [
      | then-not-meets_cut+in_ok-cut_monomial+in_ok-push w ↦
          let from : w.deref-then-not-meets_cut.result.now ≡ term.0 = w.deref-then-not-meets_cut.ensures.value ∙ c.in_ok-exponents.ensures.value in
          term_kept (cut_exponents cut) (meets_cut cut) c.args.terms.now c.loop-monomial.monomial-index term _ c.args.into.now.items c.loop-monomial.into.items _ c.loop-monomial-test.true c.loop-monomial-item.is
          (sym tested ∙ w.if-not-meets_cut.true) (w.in_ok-cut_monomial.ensures ∙ ap (λ m. cut_exponents cut m) from) (ap (λ v. v.items) w.into-is ∙ w.in_ok-push.ensures.items) c.loop-monomial.invariant
      | else-not-meets_cut w ↦
          term_struck (cut_exponents cut) (meets_cut cut) c.args.terms.now c.loop-monomial.monomial-index term c.args.into.now.items c.loop-monomial.into.items _ c.loop-monomial-test.true c.loop-monomial-item.is
          (sym tested ∙ w.if-not-meets_cut.false) (ap (λ v. v.items) w.into-is) c.loop-monomial.invariant
    ]
