use Rattle.std.proofs.Common.{◌≡◌, ℕ, List, rules, refl, sym, ap, subst, ◌∙◌}
use Rattle.std.proofs.lemmas.Fn.{answers_by}
use Rattle.ibp_algebra.specs.Exponents.{deg_rev_lex}
use Rattle.ibp_algebra.specs.ExponentOrder.{deg_rev_lex_total, deg_rev_lex_unique}
use Rattle.ibp_algebra.specs.FormalSum.{IsCanonical}
use Rattle.ibp_algebra.specs.Spans.{coefficient_by}
use Rattle.ibp_algebra.proofs.Lookups.{IsNonDecreasing-canonical, coefficient-found, coefficient-missing}
use Rattle.poly_text.proofs.running_sum.coefficient.Goals as goal

pub returns-in-Ok : goal.returns-in-Ok
returns-in-Ok c =
    let canonical : IsCanonical deg_rev_lex c.terms-terms.result.now = subst (IsCanonical deg_rev_lex) (sym c.terms-terms.ensures.same) c.terms-terms.ensures.canonical in
    let tie = c.in-Ok.ensures.position (λ (t : List ℕ × ℕ). deg_rev_lex c.args.monomial.now t.0)
    (answers_by _ _ (λ f. f.0.now ≡ c.args.monomial.now) (λ f a r f' h i. search rules) _ refl)
    in
    sym (ap (λ (t : List ℕ × ℕ). t.1) c.index-terms-place.is)
    ∙ coefficient-found deg_rev_lex deg_rev_lex_total deg_rev_lex_unique c.terms-terms.result.now c.args.monomial.now _ _ canonical c.in-Ok.ensures.bound c.index-terms-place.is tie
    ∙ (λ i. coefficient_by deg_rev_lex (c.terms-terms.ensures.same i) c.args.monomial.now)

pub returns-in-Err : goal.returns-in-Err
returns-in-Err c =
    let canonical : IsCanonical deg_rev_lex c.terms-terms.result.now = subst (IsCanonical deg_rev_lex) (sym c.terms-terms.ensures.same) c.terms-terms.ensures.canonical in
    let split = c.in-Err.ensures.position (λ (t : List ℕ × ℕ). deg_rev_lex c.args.monomial.now t.0)
    (answers_by _ _ (λ f. f.0.now ≡ c.args.monomial.now) (λ f a r f' h i. search rules) _ refl)
    (IsNonDecreasing-canonical deg_rev_lex deg_rev_lex_total deg_rev_lex_unique c.terms-terms.result.now c.args.monomial.now canonical)
    in
    c.zero.ensures ∙ coefficient-missing deg_rev_lex deg_rev_lex_total deg_rev_lex_unique c.terms-terms.result.now c.args.monomial.now _ split
    ∙ (λ i. coefficient_by deg_rev_lex (c.terms-terms.ensures.same i) c.args.monomial.now)
