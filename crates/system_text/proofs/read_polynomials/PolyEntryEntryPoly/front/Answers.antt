use Rattle.std.proofs.Common.{ℕ, List, ◌++◌, sym, ap, ◌∙◌, subst}
use Rattle.std.specs.List.{AllByRecursion}
use Rattle.ibp_algebra.specs.Polynomial.{Polynomial, SamePolynomial}
use Rattle.line_reader.proofs.Words.{not_none, some_holds, if_holds}
use Rattle.system_text.specs.Polynomials.{IsPolyTerm}
use Rattle.system_text.proofs.Sums.{as_terms, poly_found}
use Rattle.system_text.proofs.read_polynomials.PolyEntryEntryPoly.front.Goals as goal

pub returns-in_default-clause-reads : goal.returns-in_default-clause-reads
returns-in_default-clause-reads c p rest is ends e =
    let t = as_terms c.args.n p is in
    not_none c.in_ok-terms.field-0 _ (c.in_ok-terms.ensures.reads t.x t.xs rest t.first t.others ends.term ends.no_more (e ∙ ap (λ (s : List ℕ). s ++ rest) t.text)) c.in_default.is

pub returns-clause-reads : goal.returns-clause-reads
returns-clause-reads c p rest is ends e =
    let t = as_terms c.args.n p is in
    let read = some_holds c.in_ok-terms.field-0 _ (c.in-Some.terms, c.in-Some.rest)
    (c.in_ok-terms.ensures.reads t.x t.xs rest t.first t.others ends.term ends.no_more (e ∙ ap (λ (s : List ℕ). s ++ rest) t.text)) c.in-Some.is in
    (t.sum_is c.in_ok-poly.poly c.in_ok-poly.ensures.canonical (subst (λ (q : Polynomial). SamePolynomial c.in_ok-poly.poly q) (c.deref.ensures.value ∙ read.0) c.in_ok-poly.ensures.sum), read.1)

pub returns-clause-entry : goal.returns-clause-entry
returns-clause-entry c =
    poly_found c.args.n c.in_ok-poly.poly c.deref.result.now c.in_ok-poly.ensures.canonical c.in_ok-poly.ensures.sum
    (subst (λ (ts : Polynomial). AllByRecursion (IsPolyTerm c.args.n) ts) (sym c.deref.ensures.value)
    (if_holds c.in_ok-terms.field-0 _ (c.in-Some.terms, c.in-Some.rest) c.in_ok-terms.ensures.entries c.in-Some.is))
