use Rattle.std.proofs.Common.{◌≡◌, ◌++◌, take, codes}
use Rattle.std.specs.List.{flat_map}
use Rattle.system_text.specs.Texts.{poly_term_text}
use Rattle.system_text.proofs.polynomials.put_more_poly_terms.Given as goal

abbrev pub invariant-loop-term : goal.invariant-loop-term
invariant-loop-term l = l.text.items ≡ l.fn.text.items ++ flat_map (λ term. codes " + " ++ poly_term_text term) (take l.term-index l.terms)
