use Rattle.std.proofs.Common.{◌≡◌, ◌++◌, take, codes}
use Rattle.std.specs.List.{flat_map}
use Rattle.system_text.specs.Texts.{row_term_text}
use Rattle.system_text.proofs.integrals.put_more_row_terms.Given as goal

abbrev pub invariant-loop-term : goal.invariant-loop-term
invariant-loop-term l = l.text.items ≡ l.fn.text.items ++ flat_map (λ term. codes " " ++ row_term_text term) (take l.term-index l.terms)
