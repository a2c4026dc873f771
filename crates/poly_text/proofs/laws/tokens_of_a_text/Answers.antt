use Rattle.std.proofs.Common.{sym, ◌∙◌}
use Rattle.poly_text.specs.Scanning.{tokens}
use Rattle.poly_text.proofs.Spelling.{spelled, tokens_are}
use Rattle.poly_text.proofs.laws.tokens_of_a_text.Goals as goal

pub returns-clause-some : goal.returns-clause-some
returns-clause-some c = λ bytes. (tokens bytes, spelled bytes)

pub returns-clause-one : goal.returns-clause-one
returns-clause-one c = λ bytes ts us h k. sym (tokens_are h) ∙ tokens_are k
