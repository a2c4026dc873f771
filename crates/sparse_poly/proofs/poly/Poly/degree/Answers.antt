use Rattle.std.proofs.Common.{◌∙◌, sym, ap, subst}
use Rattle.std.specs.Prelude.{slice_get}
use Rattle.ibp_algebra.specs.FormalSum.{IsCanonical}
use Rattle.ibp_algebra.specs.Exponents.{deg_rev_lex}
use Rattle.ibp_algebra.specs.Polynomial.{Polynomial}
use Rattle.sparse_poly.proofs.Loops.{degree_of_head}
use Rattle.sparse_poly.proofs.poly.Poly.degree.Goals as goal

pub returns-in-Some-clause-degree : goal.returns-in-Some-clause-degree
returns-in-Some-clause-degree c =
    c.degree.ensures.sum
    ∙ sym (degree_of_head c.args.self.now c.in-Some.term.now (subst (IsCanonical deg_rev_lex) c.self.view_is c.self.invariant)
    (sym (c.in-Some.ensures.value ∙ ap (λ (l : Polynomial). slice_get l 0) (c.deref.ensures.value ∙ c.self.view_is))))
